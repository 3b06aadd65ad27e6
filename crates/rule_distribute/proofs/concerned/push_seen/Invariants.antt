use Rattle.std.proofs.Common.{◌≡◌, ◌++◌, flat_map, take}
use Rattle.nat_view.specs.Sights.{sight_of}
use Rattle.rule_distribute.specs.Nested.{nested_in}
use Rattle.rule_distribute.proofs.concerned.push_seen.Given as goal

abbrev pub invariant-loop-outer : goal.invariant-loop-outer
invariant-loop-outer l =
    l.pairs.items ≡ l.initial.pairs.items ++ flat_map (nested_in l.graph.zones (sight_of l.view).policy (sight_of l.view).tags) (take l.outer-index l.joined)
