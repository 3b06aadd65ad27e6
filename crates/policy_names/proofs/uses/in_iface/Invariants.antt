use Rattle.std.proofs.Common.{◌≡◌, map, flat_map, drop, ◌++◌}
use Rattle.spoc_ast.specs.Seen.{if_part_seen}
use Rattle.policy_decls.specs.Uses.{uses_in_if_part}
use Rattle.policy_names.specs.Seen.{mention_seen}
use Rattle.policy_names.proofs.uses.in_iface.Given as goal

abbrev pub invariant-loop-part : goal.invariant-loop-part
invariant-loop-part l =
    map mention_seen l.found.items ++ flat_map uses_in_if_part (map if_part_seen (drop l.part-index l.parts))
    ≡ map mention_seen l.initial.found.items ++ flat_map uses_in_if_part (map if_part_seen (l.parts))
