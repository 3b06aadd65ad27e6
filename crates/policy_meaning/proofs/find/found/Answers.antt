use Rattle.std.proofs.Common.{◌∙◌}
use Rattle.std.proofs.lemmas.Result.{err_from_is_err_and}
use Rattle.policy_outcome.specs.Outcome.{outcome_for, after_views}
use Rattle.policy_outcome.specs.Found.{meaning_in, pairs_in}
use Rattle.policy_meaning.proofs.Refusals.{refused_before}
use Rattle.policy_meaning.proofs.find.found.Goals as goal

pub returns-in_err-permits-clause-refused : goal.returns-in_err-permits-clause-refused
returns-in_err-permits-clause-refused c =
    let m = meaning_in c.args.topo in
    let p = err_from_is_err_and c.from_residual-in_err-permits.result c.from_residual-in_err-permits.ensures.1 in
    rw (p.1, p.2)
    (refused_before (pairs_in c.args.topo) (outcome_for m) (after_views m) (c.in_ok-areas.ensures.clear ∙ c.in_ok-tags.ensures.clear ∙ c.in_ok-views.ensures.clear)
    c.in_err-permits.field-0.0 c.in_err-permits.ensures.refused)

pub returns-clause-found : goal.returns-clause-found
returns-clause-found c = record {
  zoned = c.in_ok-graph.ensures;
  views = c.in_ok-views.ensures.are;
  expanded = c.in_ok-permits.ensures.are;
  few = c.in_ok-permits.ensures.few;
}

pub returns-clause-clear : goal.returns-clause-clear
returns-clause-clear c = c.in_ok-areas.ensures.clear ∙ c.in_ok-tags.ensures.clear ∙ c.in_ok-views.ensures.clear ∙ c.in_ok-permits.ensures.clear
