use Rattle.std.proofs.Common.{◌≡◌, map, drop}
use Rattle.group_expand.specs.Sets.{object_seen, with_objects}
use Rattle.group_expand.proofs.object_set.ObjectSet.add_all.Given as goal

abbrev pub invariant-loop-object : goal.invariant-loop-object
invariant-loop-object l =
    with_objects l.self (map object_seen (drop l.object-index l.objects)) ≡ with_objects l.fn.self (map object_seen l.objects)
