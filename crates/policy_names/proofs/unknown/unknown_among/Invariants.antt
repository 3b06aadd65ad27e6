use Rattle.std.proofs.Common.{◌≡◌, map, filter, drop}
use Rattle.policy_decls.specs.Uses.{is_unknown}
use Rattle.policy_names.specs.Seen.{mention_seen}
use Rattle.policy_names.proofs.unknown.unknown_among.Given as goal

abbrev pub invariant-loop-name : goal.invariant-loop-name
invariant-loop-name l = filter (is_unknown l.table) (map mention_seen l.names) ≡ filter (is_unknown l.table) (map mention_seen (drop l.name-index l.names))
