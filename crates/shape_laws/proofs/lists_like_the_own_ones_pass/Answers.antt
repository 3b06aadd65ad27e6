use Rattle.shape_laws.proofs.Lists.{lists_alike_pass}
use Rattle.shape_laws.proofs.lists_like_the_own_ones_pass.Goals as goal

pub returns : goal.returns
returns c = lists_alike_pass
