use Rattle.std.proofs.Common.{◌∙◌, ap, map}
use Rattle.spoc_ast.specs.Seen.{decl_seen, port_seen}
use Rattle.policy_decls.specs.Lookup.{declared_ifaces}
use Rattle.policy_decls.specs.Shapes.{is_bare_port}
use Rattle.policy_shapes.specs.Keys.{key}
use Rattle.policy_shapes.proofs.Bare.{bare_found}
use Rattle.policy_shapes.proofs.policy.Policy.is_bare.Goals as goal

pub returns : goal.returns
returns c =
    c.holds.ensures ∙ ap (λ has. has (key c.args.port.now.router.text.now c.args.port.now.net.text.now)) c.self.invariant.bares
    ∙ bare_found (port_seen c.args.port.now) (declared_ifaces (map decl_seen c.self.inside.decls.now)) ∙ ap (λ decls. is_bare_port (map decl_seen decls) (port_seen c.args.port.now)) c.self.view_is
