use Rattle.std.proofs.Common.{◌∙◌, ap, sym, map, flat_map, fold}
use Rattle.std.proofs.lemmas.List.{drop_all}
use Rattle.spoc_ast.specs.Seen.{decl_seen}
use Rattle.topology.specs.Seen.{tag_seen}
use Rattle.policy_build.specs.Views.{sources_in, decls_of}
use Rattle.policy_build.specs.Tags.{with_text, tag_texts}
use Rattle.policy_build.proofs.Goods.{decl_good_at}
use Rattle.policy_build.proofs.Grown.{fold_more}
use Rattle.policy_build.proofs.TagTexts.{tags_seen}
use Rattle.policy_build.proofs.tags.tags.Goals as goal

pub add_tags-requires-clause-good : goal.add_tags-requires-clause-good
add_tags-requires-clause-good c = decl_good_at (sources_in c.args.scope) c.args.scope.decls.now c.loop-decl.decl-index c.decl-item.result c.decl-item.is c.loop-decl-test.true c.requires

pub loop-decl-preserved : goal.loop-decl-preserved
loop-decl-preserved c = record {
  known = c.in_ok-add_tags.ensures.known;
  texts = fold_more with_text tag_texts decl_seen c.args.scope.decls.now c.loop-decl.decl-index c.decl-item.result c.loop-decl-test.true c.loop-decl.known.texts c.add_tags.new.known.texts _ c.loop-decl.invariant.texts
      (c.in_ok-add_tags.ensures.texts ∙ ap (λ d. fold with_text c.loop-decl.known.texts (tag_texts (decl_seen d))) c.decl-item.is);
}

pub returns-clause-said : goal.returns-clause-said
returns-clause-said c =
    let known = c.loop-decl.known in
    ap (map (tag_seen (sources_in c.args.scope))) c.into_bump_slice.ensures
    ∙ tags_seen (sources_in c.args.scope) (decls_of c.args.scope) known.found.items known.texts c.loop-decl.invariant.known.said
    (sym (ap (λ l. fold with_text known.texts (flat_map tag_texts (map decl_seen l))) (drop_all c.loop-decl.decl-index c.args.scope.decls.now c.loop-decl-test.false)) ∙ c.loop-decl.invariant.texts)
