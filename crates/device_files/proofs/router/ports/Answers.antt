use Rattle.topology.specs.View.{policy_of}
use Rattle.device_files.proofs.Numbers.{own_below}
use Rattle.device_files.proofs.router.ports.Goals as goal

pub port-port-requires : goal.port-port-requires
port-port-requires c = own_below (policy_of c.args.topo) c.args.r.0 c.ifs_of-row.result.now c.ifs_of-row.ensures c.loop-i.i-index c.loop-i-test.true
