use Rattle.std.proofs.Common.{◌∙◌, ap, map}
use Rattle.spoc_ast.specs.Seen.{decl_seen, word_seen}
use Rattle.policy_decls.specs.Lookup.{declared_ifaces}
use Rattle.policy_decls.specs.Shapes.{is_taken}
use Rattle.policy_shapes.specs.Keys.{key}
use Rattle.policy_shapes.proofs.Taken.{taken_found}
use Rattle.policy_shapes.proofs.policy.Policy.is_taken.Goals as goal

pub returns : goal.returns
returns c =
    c.holds.ensures ∙ ap (λ has. has (key c.args.net.now.text.now c.args.address.now.text.now)) c.self.invariant.addresses
    ∙ taken_found (word_seen c.args.net.now) (word_seen c.args.address.now) (declared_ifaces (map decl_seen c.self.inside.decls.now))
    ∙ ap (λ decls. is_taken (map decl_seen decls) (word_seen c.args.net.now) (word_seen c.args.address.now)) c.self.view_is
