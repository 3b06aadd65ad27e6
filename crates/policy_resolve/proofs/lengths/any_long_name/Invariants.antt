use Rattle.std.proofs.Common.{◌≡◌, map, drop}
use Rattle.std.specs.List.{list_any}
use Rattle.policy_names.specs.Seen.{mention_seen}
use Rattle.policy_resolve.specs.Lengths.{is_long_name}
use Rattle.policy_resolve.proofs.lengths.any_long_name.Given as goal

abbrev pub invariant-loop-name : goal.invariant-loop-name
invariant-loop-name l = list_any is_long_name (map mention_seen (drop l.name-index l.names)) ≡ list_any is_long_name (map mention_seen l.names)
