use Rattle.std.proofs.Common.{◌≡◌, map, flat_map, drop}
use Rattle.std.specs.List.{list_any}
use Rattle.spoc_ast.specs.Seen.{net_part_seen}
use Rattle.policy_decls.specs.Lookup as plain
use Rattle.policy_decls.specs.Shapes as shapes
use Rattle.policy_shapes.proofs.network.nats_unaligned.Given as goal

abbrev pub invariant-loop-part : goal.invariant-loop-part
invariant-loop-part l = list_any shapes.is_unaligned (flat_map plain.ips_in_nats (map net_part_seen (drop l.part-index l.parts))) ≡ list_any shapes.is_unaligned (flat_map plain.ips_in_nats (map net_part_seen l.parts))
