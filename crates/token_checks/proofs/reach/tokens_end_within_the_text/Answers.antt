use Rattle.token_checks.proofs.Bounds.{ends_within, ends_fit}
use Rattle.token_checks.proofs.reach.tokens_end_within_the_text.Goals as goal

pub returns-clause-within : goal.returns-clause-within
returns-clause-within c = ends_within

pub returns-clause-fit : goal.returns-clause-fit
returns-clause-fit c = ends_fit
