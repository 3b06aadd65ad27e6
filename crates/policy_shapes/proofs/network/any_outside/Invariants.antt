use Rattle.std.proofs.Common.{◌≡◌, map, flat_map, drop, not}
use Rattle.std.specs.List.{list_any}
use Rattle.spoc_base.specs.Address.{addresses, interval_covers}
use Rattle.spoc_ast.specs.Seen.{host_part_seen}
use Rattle.policy_decls.specs.Shapes as shapes
use Rattle.policy_shapes.specs.Seen.{block_seen}
use Rattle.policy_shapes.proofs.network.any_outside.Given as goal

abbrev pub invariant-loop-part : goal.invariant-loop-part
invariant-loop-part l = list_any (λ r. not (interval_covers (addresses (block_seen l.block)) (shapes.interval_in r))) (flat_map shapes.spans_in (map host_part_seen (drop l.part-index l.host))) ≡ list_any (λ r. not (interval_covers (addresses (block_seen l.block)) (shapes.interval_in r))) (flat_map shapes.spans_in (map host_part_seen l.host))
