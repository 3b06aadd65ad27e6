use Rattle.policy_laws.proofs.Sharing.{one_sharer}
use Rattle.policy_laws.proofs.walks_use_one_sharer.Goals as goal

pub returns : goal.returns
returns c = λ s wired. one_sharer s.policy wired s.zones
