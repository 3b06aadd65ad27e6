use Rattle.std.proofs.Common.{◌≡◌, [], flat_map, map, drop}
use Rattle.spoc_ast.specs.Seen.{if_part_seen}
use Rattle.policy_decls.specs.Lookup as plain
use Rattle.policy_shapes.specs.Seen.{iface_seen}
use Rattle.policy_shapes.specs.Keys.{word_key, has_key, with_keys, hardware_keys}
use Rattle.policy_shapes.proofs.clash.add_hardware.Given as goal

abbrev pub invariant-loop-part : goal.invariant-loop-part
invariant-loop-part l = with_keys (has_key l.known) (map (word_key []) (flat_map plain.hardware_in (map if_part_seen (drop l.part-index l.part-items)))) ≡ with_keys (has_key l.initial.known) (hardware_keys (iface_seen l.iface))
