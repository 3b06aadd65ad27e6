use Rattle.std.proofs.Common.{◌≡◌, length}
use Rattle.std.specs.Prelude.{not, ◌&&◌}
use Rattle.policy_model.specs.Policy.{router_at}
use Rattle.policy_model.specs.Zones.{zone_at}
use Rattle.policy_model.specs.Tags.{binds}
use Rattle.topology.specs.View.{policy_of}
use Rattle.nat_domains.specs.Marks.{site_of, is_marked, AreMarkedBy}
use Rattle.nat_domains.proofs.colour.bypassed_zones.Given as goal

abbrev pub invariant-loop-i : goal.invariant-loop-i
invariant-loop-i l = (length l.marks.items ≡ length l.graph.nets) × AreMarkedBy (λ i. not (binds (policy_of l.topo) i l.tag.0) && is_marked l.binders (router_at (policy_of l.topo) i)) (zone_at (site_of l.topo l.graph)) l.i l.marks.items
