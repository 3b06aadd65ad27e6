use Rattle.std.proofs.Common.{◌≡◌, map, drop}
use Rattle.spoc_ast.specs.Seen.{net_part_seen}
use Rattle.policy_shapes.specs.Rows.{has_bad_nat}
use Rattle.policy_shapes.proofs.network.has_bad_nat.Given as goal

abbrev pub invariant-loop-part : goal.invariant-loop-part
invariant-loop-part l = has_bad_nat (map net_part_seen (drop l.part-index l.parts)) ≡ has_bad_nat (map net_part_seen l.parts)
