use Rattle.std.proofs.Common.{ap, map, flat_map}
use Rattle.spoc_ast.specs.Seen.{net_part_seen}
use Rattle.policy_decls.specs.Said.{hosts_said}
use Rattle.policy_build.proofs.Grown.{grown}
use Rattle.policy_build.proofs.hosts.add_hosts.Goals as goal

pub returns-clause-said : goal.returns-clause-said
returns-clause-said c =
    rw c.in-Network.is (grown c.hosts_of.result _ _ _ _ c.hosts_of.ensures.said (ap (λ n. flat_map (hosts_said n) (map net_part_seen c.in-Network.parts.now)) c.number.ensures))
