use Rattle.topology.specs.View.{policy_of}
use Rattle.nat_view.specs.Sights.{sight_of}
use Rattle.shadow_checks.specs.Holders.{HaveNoHosts}
use Rattle.shadow_checks.proofs.here.first_host.Given as goal

abbrev pub invariant-loop-h : goal.invariant-loop-h
invariant-loop-h l = HaveNoHosts (policy_of l.topo) (sight_of l.view).tags l.h
