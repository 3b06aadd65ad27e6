use Rattle.std.proofs.Common.{◌≡◌, map, flat_map, drop, ◌++◌}
use Rattle.spoc_ast.specs.Seen.{set_seen, inter_seen, joined}
use Rattle.policy_decls.specs.Uses.{uses_in_set}
use Rattle.policy_names.specs.Seen.{mention_seen}
use Rattle.policy_names.proofs.SetUses.{uses_further}
use Rattle.policy_names.proofs.sets.+sets.Given as goal

abbrev pub invariant-add_part-loop-further : goal.invariant-add_part-loop-further
invariant-add_part-loop-further l =
    map mention_seen l.found.items ++ flat_map uses_further (drop l.further-index l.further-items)
    ≡ map mention_seen l.fn.found.items ++ uses_in_set (inter_seen l.part)

abbrev pub invariant-add_set-loop-part : goal.invariant-add_set-loop-part
invariant-add_set-loop-part l =
    map mention_seen l.found.items ++ uses_in_set (joined (map inter_seen (drop l.part-index l.part-items)))
    ≡ map mention_seen l.fn.found.items ++ uses_in_set (set_seen l.set)
