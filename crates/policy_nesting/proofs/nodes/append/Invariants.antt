use Rattle.std.proofs.Common.{◌≡◌, ◌++◌, map, drop}
use Rattle.policy_names.specs.Seen.{mention_seen}
use Rattle.policy_nesting.proofs.nodes.append.Given as goal

abbrev pub invariant-loop-name : goal.invariant-loop-name
invariant-loop-name l = map mention_seen l.found.items ++ map mention_seen (drop l.name-index l.names) ≡ map mention_seen l.initial.found.items ++ map mention_seen l.names
