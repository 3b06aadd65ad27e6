use Rattle.std.proofs.Common.{◌∙◌}
use Rattle.object_groups.proofs.Ends.{ends_same}
use Rattle.object_groups.proofs.compare.is_same_end.Goals as goal

pub returns : goal.returns
returns c = c.eq.ensures ∙ ends_same c.args.one.now c.args.other.now
