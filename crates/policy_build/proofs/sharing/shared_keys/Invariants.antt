use Rattle.std.proofs.Common.{◌≡◌, true, take}
use Rattle.std.specs.List.{list_all}
use Rattle.policy_build.specs.Sharing.{iface_keyed}
use Rattle.policy_build.proofs.sharing.shared_keys.Given as goal

abbrev pub invariant-loop-iface : goal.invariant-loop-iface
invariant-loop-iface l = list_all (iface_keyed l.keys) (take l.iface-index l.ifaces) ≡ true
