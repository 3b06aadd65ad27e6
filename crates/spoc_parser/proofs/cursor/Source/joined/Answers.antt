use Rattle.spoc_parser.proofs.Spreading.{joined_more}
use Rattle.spoc_parser.proofs.cursor.Source.joined.Goals as goal

pub loop-word-preserved : goal.loop-word-preserved
loop-word-preserved c = joined_more c.args.words.now c.loop-word.word-index _ c.loop-word.text.items c.extend_from_slice.new.self.items c.loop-word-test.true c.loop-word.invariant c.in_ok-extend_from_slice.ensures.items
