use Rattle.std.proofs.Common.{sym, map}
use Rattle.spoc_ast.specs.Seen.{word_seen, rout_part_seen}
use Rattle.policy_decls.specs.Lookup.{is_managed_router}
use Rattle.policy_build.specs.Views.{decls_of}
use Rattle.policy_build.proofs.Grown.{grown}
use Rattle.policy_build.proofs.RouterIfaces.{of_router}
use Rattle.policy_build.proofs.ifaces.add_ifaces.Goals as goal

pub returns-in-Router-clause-said : goal.returns-in-Router-clause-said
returns-in-Router-clause-said c =
    let parts = map rout_part_seen c.in-Router.parts.now in
    rw c.in-Router.is (grown c.ifaces_of.result _ _ _ _ c.ifaces_of.ensures.said (sym (of_router (decls_of c.args.scope) (word_seen c.in-Router.name) (is_managed_router parts) parts)))
