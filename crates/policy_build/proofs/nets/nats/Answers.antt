use Rattle.policy_build.specs.Views.{sources_in}
use Rattle.policy_build.proofs.Goods.{net_part_good}
use Rattle.policy_build.proofs.nets.nats.Goals as goal

pub add_nat-requires : goal.add_nat-requires
add_nat-requires c = net_part_good (sources_in c.args.scope) c.args.parts.now c.loop-part.part-index _ c.loop-part-test.true c.requires
