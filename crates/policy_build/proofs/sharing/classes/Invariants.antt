use Rattle.std.proofs.Common.{◌≡◌, map, drop, ◌++◌}
use Rattle.policy_build.specs.Sharing.{iface_class}
use Rattle.policy_build.proofs.sharing.classes.Given as goal

abbrev pub invariant-loop-iface : goal.invariant-loop-iface
invariant-loop-iface l = l.classes.items ++ map (iface_class l.keys) (drop l.iface-index l.ifaces) ≡ map (iface_class l.keys) l.ifaces
