use Rattle.std.proofs.Common.{◌≡◌, ℕ, ◌<◌, false, map, take}
use Rattle.policy_decls.specs.Names.{is_again}
use Rattle.policy_names.specs.Seen.{mention_seen}
use Rattle.policy_names.specs.Tables.{AreTables}
use Rattle.policy_names.proofs.tables.tables_of.Given as goal

abbrev pub invariant-loop-name : goal.invariant-loop-name
invariant-loop-name l =
    AreTables (map mention_seen (take l.name-index l.names)) l.tables.kinds.items l.tables.tags
    × ((k : ℕ) → k < l.name-index → is_again (map mention_seen l.names) k ≡ false)
