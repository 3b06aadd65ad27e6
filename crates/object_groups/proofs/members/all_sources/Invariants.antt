-- The sources of the lines so far are kept.
use Rattle.std.proofs.Common.{◌≡◌, map, take}
use Rattle.std.specs.Prelude.{flat_map}
use Rattle.spoc_base.specs.Address.{same_prefix}
use Rattle.spoc_base.specs.Shown.{cidr_of}
use Rattle.policy_model.specs.Lists.{once_each}
use Rattle.dev_config.specs.Seen.{line_of}
use Rattle.object_groups.specs.Keys.{key_of}
use Rattle.object_groups.proofs.members.all_sources.Given as goal

abbrev pub invariant-loop-line : goal.invariant-loop-line
invariant-loop-line l = record {
  seen : l.seen.keys ≡ map key_of l.kept.items;
  kept : map cidr_of l.kept.items ≡ once_each same_prefix (flat_map (λ m. m.src) (map line_of (take l.line-index l.lines)));
}
