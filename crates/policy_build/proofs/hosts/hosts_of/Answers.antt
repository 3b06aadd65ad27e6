use Rattle.policy_build.specs.Views.{sources_in}
use Rattle.policy_build.proofs.Goods.{net_part_good}
use Rattle.policy_build.proofs.hosts.hosts_of.Goals as goal

pub add_host-requires-clause-good : goal.add_host-requires-clause-good
add_host-requires-clause-good c = net_part_good (sources_in c.args.scope) c.args.parts.now c.loop-part.part-index _ c.loop-part-test.true c.requires.good
