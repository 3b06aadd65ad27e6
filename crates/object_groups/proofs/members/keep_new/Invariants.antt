-- Those so far are kept, each once.
use Rattle.std.proofs.Common.{◌≡◌, ◌++◌, List, map, take}
use Rattle.spoc_base.specs.Address.{Cidr, same_prefix}
use Rattle.spoc_base.specs.Shown.{cidr_of}
use Rattle.policy_model.specs.Lists.{once_each}
use Rattle.object_groups.specs.Keys.{key_of}
use Rattle.object_groups.proofs.members.keep_new.Given as goal

abbrev pub invariant-loop-p : goal.invariant-loop-p
invariant-loop-p l = record {
  seen : l.seen.keys ≡ map key_of l.kept.items;
  kept : (before : List Cidr) → map cidr_of l.fn.kept.items ≡ once_each same_prefix before → map cidr_of l.kept.items ≡ once_each same_prefix (before ++ map cidr_of (take l.p-index l.prefixes));
}
