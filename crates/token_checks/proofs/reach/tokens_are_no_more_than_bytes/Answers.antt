use Rattle.token_checks.proofs.Bounds.{few_tokens, numbers_fit}
use Rattle.token_checks.proofs.reach.tokens_are_no_more_than_bytes.Goals as goal

pub returns-clause-few : goal.returns-clause-few
returns-clause-few c = few_tokens

pub returns-clause-fit : goal.returns-clause-fit
returns-clause-fit c = numbers_fit
