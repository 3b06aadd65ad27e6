use Rattle.std.proofs.Common.{◌≡◌, map, drop, true}
use Rattle.topology.specs.Expressions.{expr_of, part_of}
use Rattle.topology.specs.View.{policy_of}
use Rattle.group_expand.specs.Scope.{objects_in}
use Rattle.group_expand.specs.Sets.{object_seen, with_objects}
use Rattle.group_expand.proofs.UnionSets.{sound_parts, sound_terms, objects_to_come, left_by}
use Rattle.group_expand.proofs.expr.+sets.Given as goal

abbrev pub invariant-of_union-loop-part : goal.invariant-of_union-loop-part
invariant-of_union-loop-part l =
    (sound_parts (policy_of l.scope.topo) (drop l.part-index l.part-items) ≡ true)
    × (with_objects l.found (objects_to_come l.scope (drop l.part-index l.part-items)) ≡ objects_in l.scope (expr_of l.set))

abbrev pub invariant-of_part-loop-further : goal.invariant-of_part-loop-further
invariant-of_part-loop-further l =
    (sound_terms (policy_of l.scope.topo) (drop l.further-index l.further-items) ≡ true)
    × (left_by l.scope (map object_seen l.found.items) (drop l.further-index l.further-items) ≡ objects_in l.scope (part_of l.part))
