use Rattle.topology.specs.View.{policy_of}
use Rattle.nat_view.specs.Sights.{sight_of}
use Rattle.shadow_checks.specs.Holders.{HaveNoIfaces}
use Rattle.shadow_checks.proofs.here.first_iface.Given as goal

abbrev pub invariant-loop-i : goal.invariant-loop-i
invariant-loop-i l = HaveNoIfaces (policy_of l.topo) (sight_of l.view).tags l.i
