use Rattle.spoc_ast.specs.Seen.{net_part_seen}
use Rattle.policy_build.specs.Views.{sources_in}
use Rattle.policy_build.specs.Tags.{with_text, tag_texts_in}
use Rattle.policy_build.proofs.Goods.{net_part_good}
use Rattle.policy_build.proofs.Grown.{fold_more}
use Rattle.policy_build.proofs.tags.tags_of.Goals as goal

pub add_part-requires-clause-good : goal.add_part-requires-clause-good
add_part-requires-clause-good c = net_part_good (sources_in c.args.scope) c.args.parts.now c.loop-part.part-index _ c.loop-part-test.true c.requires.good

pub loop-part-preserved : goal.loop-part-preserved
loop-part-preserved c = record {
  known = c.in_ok-add_part.ensures.known;
  texts = fold_more with_text tag_texts_in net_part_seen c.args.parts.now c.loop-part.part-index _ c.loop-part-test.true c.loop-part.known.texts c.add_part.new.known.texts _ c.loop-part.invariant.texts c.in_ok-add_part.ensures.texts;
}
