use Rattle.policy_build.specs.Views.{sources_in}
use Rattle.policy_build.proofs.Goods.{decl_good_at}
use Rattle.policy_build.proofs.restrictions.declared.Goals as goal

pub add_restriction-requires-clause-good : goal.add_restriction-requires-clause-good
add_restriction-requires-clause-good c = decl_good_at (sources_in c.args.scope) c.args.scope.decls.now c.loop-decl.decl-index c.decl-item.result c.decl-item.is c.loop-decl-test.true c.requires
