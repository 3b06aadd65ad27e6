use Rattle.std.proofs.Common.{◌≡◌, map, drop}
use Rattle.std.specs.List.{list_any}
use Rattle.spoc_ast.specs.Seen.{if_part_seen}
use Rattle.policy_resolve.specs.Lengths.{is_long_part}
use Rattle.policy_resolve.proofs.lengths.any_long_part.Given as goal

abbrev pub invariant-loop-part : goal.invariant-loop-part
invariant-loop-part l = list_any is_long_part (map if_part_seen (drop l.part-index l.parts)) ≡ list_any is_long_part (map if_part_seen l.parts)
