use Rattle.std.proofs.Common.{◌≡◌, map, flat_map, drop}
use Rattle.std.specs.List.{list_any}
use Rattle.spoc_ast.specs.Seen.{net_part_seen}
use Rattle.policy_decls.specs.Lookup as plain
use Rattle.policy_shapes.specs.Seen.{block_seen}
use Rattle.policy_shapes.specs.Rows.{other_length}
use Rattle.policy_shapes.proofs.network.some_other_length.Given as goal

abbrev pub invariant-loop-part : goal.invariant-loop-part
invariant-loop-part l = list_any (other_length (block_seen l.own)) (flat_map plain.ips_in_nats (map net_part_seen (drop l.part-index l.parts))) ≡ list_any (other_length (block_seen l.own)) (flat_map plain.ips_in_nats (map net_part_seen l.parts))
