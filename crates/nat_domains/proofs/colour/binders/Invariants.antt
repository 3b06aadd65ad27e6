use Rattle.std.proofs.Common.{◌≡◌, length}
use Rattle.policy_model.specs.Policy.{router_at}
use Rattle.policy_model.specs.Tags.{binds}
use Rattle.topology.specs.View.{policy_of}
use Rattle.nat_domains.specs.Marks.{AreMarkedBy}
use Rattle.nat_domains.proofs.colour.binders.Given as goal

abbrev pub invariant-loop-i : goal.invariant-loop-i
invariant-loop-i l = (length l.marks.items ≡ length (policy_of l.topo).routers) × AreMarkedBy (λ i. binds (policy_of l.topo) i l.tag.0) (router_at (policy_of l.topo)) l.i l.marks.items
