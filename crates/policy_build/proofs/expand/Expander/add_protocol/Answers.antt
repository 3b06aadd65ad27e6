use Rattle.std.proofs.Common.{◌<◌, sym, arith}
use Rattle.spoc_ast.specs.Seen.{simple_seen, word_seen}
use Rattle.policy_build.specs.Views.{decls_of}
use Rattle.policy_build.proofs.Expanding.{of_protocol, of_no_protocol, same}
use Rattle.policy_build.proofs.Grown.{grown}
use Rattle.policy_build.proofs.expand.Expander.add_protocol.Goals as goal

pub returns-in-Some : goal.returns-in-Some
returns-in-Some c =
    let l : 0 < c.args.depth = omega arith in
    grown c.add_simple.result _ _ _ _ c.add_simple.ensures (sym (of_protocol (decls_of c.args.self.scope) c.args.depth (word_seen c.args.name) (simple_seen c.in-Some.simple) l (sym c.in-Some.ensures)))

pub returns-in-None : goal.returns-in-None
returns-in-None c =
    let l : 0 < c.args.depth = omega arith in
    same _ _ (of_no_protocol (decls_of c.args.self.scope) c.args.depth (word_seen c.args.name) l (sym c.in-None.ensures))
