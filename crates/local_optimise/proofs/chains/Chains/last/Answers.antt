use Rattle.std.proofs.Common.{◌∙◌}
use Rattle.local_optimise.proofs.chains.Chains.last.Goals as goal

pub returns : goal.returns
returns c = λ keys h. c.copied.ensures ∙ (c.get.ensures.value ∙ h.heads c.args.key.now)
