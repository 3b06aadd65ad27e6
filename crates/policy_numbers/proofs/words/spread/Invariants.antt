use Rattle.std.proofs.Common.{◌≡◌, ◌++◌, map, drop}
use Rattle.spoc_ast.specs.Seen.{word_seen}
use Rattle.policy_decls.specs.Numbers as plain
use Rattle.policy_numbers.proofs.words.spread.Given as goal

abbrev pub invariant-loop-word : goal.invariant-loop-word
invariant-loop-word l = l.text.items ++ plain.spread (map word_seen (drop l.word-index l.words)) ≡ plain.spread (map word_seen l.words)
