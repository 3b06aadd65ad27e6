use Rattle.std.proofs.Common.{◌∙◌, ℕ, List, ap, map}
use Rattle.std.specs.Prelude.{flat_map}
use Rattle.std.proofs.lemmas.List.{take_all}
use Rattle.spoc_base.specs.declared.ids.IfId.{IfId}
use Rattle.topology.specs.View.{policy_of}
use Rattle.path_walk.specs.Seen.{site_of, path_seen}
use Rattle.path_walk.specs.Search.{by_door, doors_in}
use Rattle.path_walk.proofs.Tree.{doors_are_all}
use Rattle.path_walk.proofs.onward.onward.Goals as goal

pub returns : goal.returns
returns c =
    let s = site_of (policy_of c.args.topo) c.args.graph.now in
    let path = path_seen c.args.path.now in
    let row = by_door s c.args.from.0 path in
    c.loop-door.invariant
    ∙ (ap (λ (l : List IfId). flat_map row (map (λ i. i.0) l)) (take_all c.loop-door.door-index c.doors_in-doors.result.now c.loop-door-test.false)
    ∙ (ap (λ (l : List ℕ). flat_map row l) c.doors_in-doors.ensures
    ∙ (ap (λ (z : ℕ). flat_map row (doors_in s z)) c.end_of-end.ensures
    ∙ doors_are_all s c.args.from.0 path)))
