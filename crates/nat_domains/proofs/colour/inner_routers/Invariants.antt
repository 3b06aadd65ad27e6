use Rattle.std.proofs.Common.{◌≡◌, length}
use Rattle.std.specs.Prelude.{not, ◌&&◌}
use Rattle.policy_model.specs.Policy.{router_at}
use Rattle.policy_model.specs.Zones.{zone_at}
use Rattle.topology.specs.View.{policy_of}
use Rattle.nat_domains.specs.Marks.{site_of, is_marked, AreMarkedBy}
use Rattle.nat_domains.proofs.colour.inner_routers.Given as goal

abbrev pub invariant-loop-i : goal.invariant-loop-i
invariant-loop-i l = (length l.marks.items ≡ length (policy_of l.topo).routers) × AreMarkedBy (λ i. not (is_marked l.binders (router_at (policy_of l.topo) i)) && is_marked l.active (zone_at (site_of l.topo l.graph) i)) (router_at (policy_of l.topo)) l.i l.marks.items
