use Rattle.std.proofs.Common.{◌≡◌, [], flat_map, map, drop}
use Rattle.std.specs.List.{list_any}
use Rattle.spoc_ast.specs.Seen.{if_part_seen}
use Rattle.policy_decls.specs.Lookup as plain
use Rattle.policy_shapes.specs.Seen.{iface_seen}
use Rattle.policy_shapes.specs.Keys.{word_key, has_key, hardware_keys}
use Rattle.policy_shapes.proofs.clash.holds_hardware.Given as goal

abbrev pub invariant-loop-part : goal.invariant-loop-part
invariant-loop-part l = list_any (has_key l.earlier) (map (word_key []) (flat_map plain.hardware_in (map if_part_seen (drop l.part-index l.part-items)))) ≡ list_any (has_key l.earlier) (hardware_keys (iface_seen l.iface))
