use Rattle.std.proofs.Common.{◌∙◌, arith, map, sym}
use Rattle.spoc_ast.specs.Seen.{decl_seen}
use Rattle.policy_decls.specs.Shapes.{is_outside}
use Rattle.policy_shapes.specs.Seen.{iface_seen}
use Rattle.policy_shapes.proofs.Lists.{any_here, any_step}
use Rattle.policy_shapes.proofs.router.any_outside.Goals as goal

pub returns-then-is_outside : goal.returns-then-is_outside
returns-then-is_outside c =
    any_here (is_outside (map decl_seen c.args.policy.now)) iface_seen c.args.ifaces.now c.loop-iface.iface-index _ (omega arith) _ c.loop-iface.invariant (sym c.is_outside.ensures ∙ c.if-is_outside.true)

pub loop-iface-preserved : goal.loop-iface-preserved
loop-iface-preserved c =
    any_step (is_outside (map decl_seen c.args.policy.now)) iface_seen c.args.ifaces.now c.loop-iface.iface-index _ (omega arith) _ c.loop-iface.invariant (sym c.is_outside.ensures ∙ c.if-is_outside.false)
