use Rattle.policy_build.specs.Views.{decls_of, sources_in}
use Rattle.policy_build.proofs.Goods.{decl_good_at, decl_placed_at}
use Rattle.policy_build.proofs.ifaces.ifaces.Goals as goal

pub add_ifaces-requires-clause-good : goal.add_ifaces-requires-clause-good
add_ifaces-requires-clause-good c = decl_good_at (sources_in c.args.scope) c.args.scope.decls.now c.loop-decl.decl-index c.decl-item.result c.decl-item.is c.loop-decl-test.true c.requires.good

pub add_ifaces-requires-clause-placed : goal.add_ifaces-requires-clause-placed
add_ifaces-requires-clause-placed c =
    decl_placed_at (decls_of c.args.scope) c.args.scope.decls.now c.loop-decl.decl-index c.decl-item.result c.decl-item.is c.loop-decl-test.true c.requires.placed
