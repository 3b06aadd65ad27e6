use Rattle.std.proofs.Common.{refl}
use Rattle.policy_decls.specs.Said.{most_boxes}
use Rattle.policy_build.proofs.services.most_kept.Goals as goal

pub returns : goal.returns
unfolding most_boxes
returns c = refl
