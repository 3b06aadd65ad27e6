use Rattle.policy_build.proofs.Shared.{keyed_more}
use Rattle.policy_build.proofs.sharing.shared_keys.Goals as goal

pub loop-iface-preserved : goal.loop-iface-preserved
loop-iface-preserved c =
    keyed_more c.loop-iface.keys c.add_key.new.keys c.args.ifaces.now c.loop-iface.iface-index _ c.loop-iface-test.true c.loop-iface.invariant c.in_ok-add_key.ensures.0 c.in_ok-add_key.ensures.1
