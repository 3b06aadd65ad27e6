use Rattle.std.proofs.Common.{◌≡◌, ℕ, ◌<◌, length, slice_index}
use Rattle.zone_graph.proofs.forest.singles.Given as goal

abbrev pub invariant-loop-n : goal.invariant-loop-n
invariant-loop-n l = (length l.parents.items ≡ l.n) × ((k : ℕ) → k < l.n → slice_index l.parents.items k ≡ k)
