use Rattle.std.proofs.Common.{◌≡◌, [], map, drop}
use Rattle.spoc_ast.specs.Seen.{word_seen}
use Rattle.policy_shapes.specs.Keys.{has_key, clash_known, tag_key}
use Rattle.policy_decls.specs.Shapes as shapes
use Rattle.policy_shapes.proofs.clash.repeats.Given as goal

abbrev pub invariant-loop-tag : goal.invariant-loop-tag
invariant-loop-tag l = clash_known tag_key tag_key (has_key l.earlier) (map word_seen (drop l.tag-index l.tags)) ≡ shapes.clash_with shapes.same_texts [] (map word_seen l.tags)
