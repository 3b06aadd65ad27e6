use Rattle.std.proofs.Common.{◌≡◌, flat_map, take}
use Rattle.policy_model.specs.Tags.{zone_view}
use Rattle.nat_view.specs.Views.{seen_of}
use Rattle.rule_distribute.specs.Nested.{nested_in}
use Rattle.rule_distribute.proofs.concerned.nested_pairs.Given as goal

abbrev pub invariant-loop-z : goal.invariant-loop-z
invariant-loop-z l =
    l.pairs.items ≡ flat_map (λ z. flat_map (nested_in l.graph.zones (seen_of l.views).policy (zone_view (seen_of l.views).views z.0)) l.joined) (take l.z-index l.zones)
