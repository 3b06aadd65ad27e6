use Rattle.std.proofs.Common.{◌∙◌, sym}
use Rattle.path_walk.proofs.Bridges.{ifaces_passed_by}
use Rattle.path_walk.proofs.onward.is_on.Goals as goal

pub returns : goal.returns
returns c = c.is_near.ensures ∙ sym (ifaces_passed_by c.args.i.0 c.args.path.now c.args.last)
