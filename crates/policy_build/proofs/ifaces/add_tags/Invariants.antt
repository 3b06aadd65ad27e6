use Rattle.std.proofs.Common.{◌≡◌, map, drop, ◌++◌}
use Rattle.spoc_ast.specs.Seen.{word_seen}
use Rattle.policy_decls.specs.Said.{number_of_tag}
use Rattle.policy_build.specs.Views.{decls_of}
use Rattle.policy_build.proofs.ifaces.add_tags.Given as goal

abbrev pub invariant-loop-tag : goal.invariant-loop-tag
invariant-loop-tag l =
    map (λ tag. tag.0) l.found.items ++ map (number_of_tag (decls_of l.scope)) (map word_seen (drop l.tag-index l.tags)) ≡ map (λ tag. tag.0) l.initial.found.items ++ map (number_of_tag (decls_of l.scope)) (map word_seen l.tags)
