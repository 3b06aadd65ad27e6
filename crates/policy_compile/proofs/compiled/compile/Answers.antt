use Rattle.policy_compile.proofs.Summed.{listed}
use Rattle.policy_compile.proofs.compiled.compile.Goals as goal

pub device_files-requires : goal.device_files-requires
device_files-requires c = record { each = rw c.deref-2.ensures.value (listed c.args.topo c.in_ok-lists.lists.items c.in_ok-lists.ensures.lists) }
