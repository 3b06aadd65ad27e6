use Rattle.std.proofs.Common.{arith, flat_map, refl}
use Rattle.policy_shapes.specs.Seen.{iface_seen}
use Rattle.policy_shapes.specs.Keys.{address_keys}
use Rattle.policy_shapes.proofs.Known.{with_empty, known_step, known_end}
use Rattle.policy_shapes.proofs.policy.taken.Goals as goal

pub loop-iface-init : goal.loop-iface-init
loop-iface-init c = with_empty _ _ c.new-found.ensures

pub loop-iface-preserved : goal.loop-iface-preserved
loop-iface-preserved c =
    known_step iface_seen c.args.ifaces.now c.loop-iface.iface-index _ (omega arith) (flat_map address_keys) _ _ _ _ refl c.in_ok-add_addresses.ensures c.loop-iface.invariant

pub returns : goal.returns
returns c = known_end iface_seen c.args.ifaces.now c.loop-iface.iface-index (flat_map address_keys) _ _ (omega arith) refl c.loop-iface.invariant
