use Rattle.std.proofs.Common.{◌≡◌, map, drop}
use Rattle.std.specs.List.{list_any}
use Rattle.spoc_ast.specs.Seen.{decl_seen}
use Rattle.policy_resolve.specs.Lengths.{has_long_word}
use Rattle.policy_resolve.proofs.lengths.any_long_word.Given as goal

abbrev pub invariant-loop-decl : goal.invariant-loop-decl
invariant-loop-decl l = list_any has_long_word (map decl_seen (drop l.decl-index l.decls)) ≡ list_any has_long_word (map decl_seen l.decls)
