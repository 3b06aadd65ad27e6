use Rattle.std.proofs.Common.{◌∙◌, arith, map, sym}
use Rattle.spoc_ast.specs.Seen.{port_seen, decl_seen}
use Rattle.policy_decls.specs.Shapes.{is_unmanaged_port}
use Rattle.policy_shapes.proofs.Lists.{any_here, any_step}
use Rattle.policy_shapes.proofs.restriction.any_unmanaged.Goals as goal

pub returns-then-is_unmanaged : goal.returns-then-is_unmanaged
returns-then-is_unmanaged c =
    any_here (is_unmanaged_port (map decl_seen c.args.policy.now)) port_seen c.args.ports.now c.loop-port.port-index _ (omega arith) _ c.loop-port.invariant (sym c.is_unmanaged.ensures ∙ c.if-is_unmanaged.true)

pub loop-port-preserved : goal.loop-port-preserved
loop-port-preserved c =
    any_step (is_unmanaged_port (map decl_seen c.args.policy.now)) port_seen c.args.ports.now c.loop-port.port-index _ (omega arith) _ c.loop-port.invariant (sym c.is_unmanaged.ensures ∙ c.if-is_unmanaged.false)
