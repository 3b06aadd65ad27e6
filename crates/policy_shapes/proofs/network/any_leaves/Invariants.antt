use Rattle.std.proofs.Common.{◌≡◌, map, flat_map, drop}
use Rattle.std.specs.List.{list_any}
use Rattle.spoc_ast.specs.Seen.{net_part_seen}
use Rattle.policy_decls.specs.Shapes as shapes
use Rattle.policy_shapes.specs.Seen.{block_seen}
use Rattle.policy_shapes.proofs.network.any_leaves.Given as goal

abbrev pub invariant-loop-part : goal.invariant-loop-part
invariant-loop-part l = list_any (shapes.leaves (block_seen l.own)) (flat_map shapes.hosts_in (map net_part_seen (drop l.part-index l.parts))) ≡ list_any (shapes.leaves (block_seen l.own)) (flat_map shapes.hosts_in (map net_part_seen l.parts))
