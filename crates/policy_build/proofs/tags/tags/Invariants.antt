use Rattle.std.proofs.Common.{◌≡◌, map, flat_map, drop, fold, []}
use Rattle.spoc_ast.specs.Seen.{decl_seen}
use Rattle.policy_build.specs.Tags.{IsKnown, with_text, tag_texts}
use Rattle.policy_build.specs.Views.{decls_of, sources_in}
use Rattle.policy_build.proofs.tags.tags.Given as goal

abbrev pub invariant-loop-decl : goal.invariant-loop-decl
invariant-loop-decl l = record {
  known : IsKnown (sources_in l.scope) l.known;
  texts : fold with_text l.known.texts (flat_map tag_texts (map decl_seen (drop l.decl-index l.decl-items))) ≡ fold with_text [] (flat_map tag_texts (decls_of l.scope));
}
