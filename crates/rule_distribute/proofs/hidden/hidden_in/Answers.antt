use Rattle.std.proofs.Common.{◌∙◌, sym}
use Rattle.nat_view.specs.Sights.{sight_of}
use Rattle.permit_set.specs.Shown.{permit_of}
use Rattle.rule_distribute.proofs.Passing.{neither_end}
use Rattle.rule_distribute.proofs.hidden.hidden_in.Goals as goal

pub returns : goal.returns
returns c =
    let sight = sight_of c.args.view in
    neither_end sight.policy sight.tags (permit_of c.args.q) (sym c.hidden.ensures ∙ c.if-hidden.false) (sym c.hidden-2.ensures ∙ c.if-hidden-2.false)
