use Rattle.std.proofs.Common.{◌≡◌, ℕ, ◌<◌, [], length, slice_index_or}
use Rattle.policy_names.proofs.tables.Tables.new.Given as goal

abbrev pub invariant-loop : goal.invariant-loop
invariant-loop l = (length l.kinds.items ≡ l.counter) × ((n : ℕ) → n < l.counter → slice_index_or l.kinds.items n [] ≡ [])
