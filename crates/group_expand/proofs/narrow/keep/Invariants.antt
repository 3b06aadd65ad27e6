use Rattle.std.proofs.Common.{◌≡◌, ◌++◌, map, drop}
use Rattle.group_expand.specs.Sets.{narrowed_by, object_seen}
use Rattle.group_expand.proofs.narrow.keep.Given as goal

abbrev pub invariant-loop-object : goal.invariant-loop-object
invariant-loop-object l =
    map object_seen l.found.items ++ narrowed_by l.without (map object_seen (drop l.object-index l.objects)) l.set ≡ narrowed_by l.without (map object_seen l.objects) l.set
