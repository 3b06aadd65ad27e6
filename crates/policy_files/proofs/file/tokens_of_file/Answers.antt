use Rattle.token_checks.proofs.Bounds.{numbers_fit}
use Rattle.policy_files.proofs.Texts.{reach}
use Rattle.policy_files.proofs.file.tokens_of_file.Goals as goal

pub returns-clause-few : goal.returns-clause-few
returns-clause-few c = numbers_fit c.args.text.now c.in_ok-found.found.items c.requires c.in_ok-found.ensures.ok

pub returns-clause-reach : goal.returns-clause-reach
returns-clause-reach c = reach c.args.text.now c.in_ok-found.found.items c.requires c.in_ok-found.ensures.ok
