use Rattle.policy_build.specs.Views.{decls_of, sources_in}
use Rattle.policy_build.proofs.Goods.{rout_part_good, rout_part_placed}
use Rattle.policy_build.proofs.ifaces.ifaces_of.Goals as goal

pub add_iface-requires-clause-good : goal.add_iface-requires-clause-good
add_iface-requires-clause-good c = rout_part_good (sources_in c.args.scope) c.args.parts.now c.loop-part.part-index _ c.loop-part-test.true c.requires.good

pub add_iface-requires-clause-placed : goal.add_iface-requires-clause-placed
add_iface-requires-clause-placed c = rout_part_placed (decls_of c.args.scope) c.args.parts.now c.loop-part.part-index _ c.loop-part-test.true c.requires.placed
