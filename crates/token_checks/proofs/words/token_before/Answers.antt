use Rattle.token_checks.proofs.Standing.{seen_before}
use Rattle.token_checks.proofs.words.token_before.Goals as goal

pub returns : goal.returns
returns c = seen_before c.args.tokens.now c.args.place _ c.if-place-eq0.false c.requires
