use Rattle.std.proofs.Common.{◌∙◌, ap, reverse}
use Rattle.local_optimise.proofs.Passes.{turned_round}
use Rattle.local_optimise.proofs.second_pass.unrepeated.Goals as goal

pub returns : goal.returns
returns c =
    turned_round c.args.lines.now c.into_lines-kept.result.items c.reverse.new.self.items c.loop-left.left c.loop-left-test.false (ap reverse c.into_lines-kept.ensures ∙ c.loop-left.invariant.kept) c.reverse.ensures.items
