use Rattle.object_groups.proofs.Kept.{line_more}
use Rattle.object_groups.proofs.members.all_sources.Goals as goal

pub loop-line-preserved : goal.loop-line-preserved
loop-line-preserved c = record {
  seen = c.in_ok-keep_new.ensures.seen;
  kept = line_more c.args.lines.now c.loop-line.line-index c.line-item.result c.loop-line.kept.items c.keep_new.new.kept.items c.loop-line-test.true c.line-item.is c.loop-line.invariant.kept c.in_ok-keep_new.ensures.kept;
}
