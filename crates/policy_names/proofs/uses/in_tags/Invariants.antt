use Rattle.std.proofs.Common.{◌≡◌, map, drop, ◌++◌}
use Rattle.spoc_ast.specs.Seen.{word_seen}
use Rattle.policy_decls.specs.Names as plain
use Rattle.policy_names.specs.Seen.{mention_seen}
use Rattle.policy_names.proofs.uses.in_tags.Given as goal

abbrev pub invariant-loop-tag : goal.invariant-loop-tag
invariant-loop-tag l =
    map mention_seen l.found.items ++ map (plain.mention plain.TagName) (map word_seen (drop l.tag-index l.tags))
    ≡ map mention_seen l.initial.found.items ++ map (plain.mention plain.TagName) (map word_seen (l.tags))
