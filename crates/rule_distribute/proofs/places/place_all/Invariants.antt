use Rattle.std.proofs.Common.{◌≡◌, map, take}
use Rattle.policy_model.specs.Blocks.{placement}
use Rattle.topology.specs.View.{policy_of}
use Rattle.nat_view.specs.Views.{seen_of}
use Rattle.permit_set.specs.Shown.{permit_of}
use Rattle.rule_distribute.specs.Distributed.{placed_seen}
use Rattle.permit_lines.specs.Given.{site_with}
use Rattle.rule_distribute.proofs.places.place_all.Given as goal

abbrev pub invariant-loop-i : goal.invariant-loop-i
invariant-loop-i l = map placed_seen l.places.items ≡ map (λ i. (i.0, placement (site_with (policy_of l.topo) l.graph) (seen_of l.views).views (map permit_of l.permits) i.0)) (take l.i-index l.i-items)
