use Rattle.std.proofs.Common.{◌∙◌}
use Rattle.policy_names.specs.Seen.{decls_of}
use Rattle.policy_shapes.proofs.FirstShape.{at_last}
use Rattle.policy_shapes.proofs.shapes.first_shape.Goals as goal

pub returns : goal.returns
returns c =
    at_last c.first_among.result c.in_ok-policy.policy c.deref-2.result.now c.in_ok-decls.decls.items (decls_of c.args.files.now) (c.in_ok-policy.ensures ∙ c.deref.ensures.value) c.deref-2.ensures.value c.in_ok-decls.ensures c.first_among.ensures
