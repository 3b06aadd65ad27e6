use Rattle.std.proofs.Common.{◌≡◌, map, flat_map, drop, ◌++◌}
use Rattle.spoc_ast.specs.Seen.{prt_seen}
use Rattle.policy_decls.specs.Uses.{uses_in_prt}
use Rattle.policy_names.specs.Seen.{mention_seen}
use Rattle.policy_names.proofs.uses.in_prts.Given as goal

abbrev pub invariant-loop-prt : goal.invariant-loop-prt
invariant-loop-prt l =
    map mention_seen l.found.items ++ flat_map uses_in_prt (map prt_seen (drop l.prt-index l.prts))
    ≡ map mention_seen l.initial.found.items ++ flat_map uses_in_prt (map prt_seen (l.prts))
