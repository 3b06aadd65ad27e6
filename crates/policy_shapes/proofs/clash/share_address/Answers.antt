use Rattle.std.proofs.Common.{◌∙◌, arith, flat_map, refl, sym}
use Rattle.policy_shapes.specs.Seen.{iface_seen}
use Rattle.policy_shapes.specs.Keys.{address_keys}
use Rattle.policy_shapes.proofs.Known.{clash_step, known_step, known_end}
use Rattle.policy_shapes.proofs.clash.share_address.Goals as goal

pub loop-iface-preserved : goal.loop-iface-preserved
loop-iface-preserved c = record {
  clash = clash_step iface_seen c.args.ifaces.now c.loop-iface.iface-index _ (omega arith) address_keys address_keys _ _ c.loop-iface.invariant.clash _ (sym c.in_ok-note_addresses.ensures.clash ∙ c.if-branch.false) (c.in_ok-note_addresses.ensures.names c.if-branch.false);
  names = known_step iface_seen c.args.ifaces.now c.loop-iface.iface-index _ (omega arith) (flat_map address_keys) _ _ _ _ refl (c.in_ok-note_addresses.ensures.names c.if-branch.false) c.loop-iface.invariant.names;
}

pub returns-clause-names : goal.returns-clause-names
returns-clause-names c = λ _. known_end iface_seen c.args.ifaces.now c.loop-iface.iface-index (flat_map address_keys) _ _ (omega arith) refl c.loop-iface.invariant.names
