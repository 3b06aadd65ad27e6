use Rattle.std.proofs.Common.{◌≡◌, map, flat_map, drop, ◌++◌}
use Rattle.spoc_ast.specs.Seen.{word_seen, net_part_seen}
use Rattle.policy_decls.specs.Names as plain
use Rattle.policy_names.specs.Seen.{mention_seen}
use Rattle.policy_names.proofs.names.add_network.Given as goal

abbrev pub invariant-loop-part : goal.invariant-loop-part
invariant-loop-part l =
    map mention_seen l.found.items ++ flat_map (plain.names_in_net_part (word_seen l.name)) (map net_part_seen (drop l.part-index l.parts))
    ≡ map mention_seen l.initial.found.items ++ flat_map (plain.names_in_net_part (word_seen l.name)) (map net_part_seen l.parts)
