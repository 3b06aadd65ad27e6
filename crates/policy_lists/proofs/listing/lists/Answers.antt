use Rattle.std.proofs.lemmas.Result.{err_from_is_err_and}
use Rattle.policy_lists.proofs.Refusals.{few_lines, lines_refused}
use Rattle.policy_lists.proofs.listing.lists.Goals as goal

pub returns-in_err-lists-clause-refused : goal.returns-in_err-lists-clause-refused
returns-in_err-lists-clause-refused c =
    let p = err_from_is_err_and c.from_residual-in_err-lists.result c.from_residual-in_err-lists.ensures.1 in
    rw (p.1, p.2) (lines_refused c.args.topo c.in_err-lists.field-0.0 c.in_ok-places.ensures.clear c.in_err-lists.ensures.refused)

pub returns-clause-clear : goal.returns-clause-clear
returns-clause-clear c = few_lines c.args.topo c.in_ok-places.ensures.clear c.in_ok-lists.ensures.few
