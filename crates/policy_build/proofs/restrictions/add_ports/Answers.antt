use Rattle.spoc_ast.specs.Seen.{port_seen}
use Rattle.policy_decls.specs.Said.{number_of_port}
use Rattle.policy_build.specs.Views.{decls_of}
use Rattle.policy_build.proofs.Grown.{more_twice_mapped}
use Rattle.policy_build.proofs.restrictions.add_ports.Goals as goal

pub loop-port-preserved : goal.loop-port-preserved
loop-port-preserved c =
    more_twice_mapped (number_of_port (decls_of c.args.scope)) port_seen c.args.ports.now c.loop-port.port-index _ c.loop-port-test.true _ _ _ c.loop-port.invariant c.in_ok-add_port.ensures
