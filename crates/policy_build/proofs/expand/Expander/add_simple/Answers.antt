use Rattle.spoc_ast.specs.Seen.{simple_seen}
use Rattle.policy_build.specs.Views.{decls_of}
use Rattle.policy_build.proofs.Expanding.{pushed}
use Rattle.policy_build.proofs.expand.Expander.add_simple.Goals as goal

pub returns : goal.returns
returns c =
    pushed (decls_of c.args.self.scope) c.args.depth (simple_seen c.args.simple.now) c.args.boxes.now.found.items c.push.new.self.found.items c.in_ok-found.found c.push.result c.in_ok-found.ensures c.push.ensures
