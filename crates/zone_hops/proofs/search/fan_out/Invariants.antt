use Rattle.std.proofs.Common.{◌≡◌, ◌≢◌, ℕ, ◌<◌, true, [], ◌∷◌, slice_index}
use Rattle.policy_model.specs.Policy.{net_at}
use Rattle.topology.specs.View.{policy_of}
use Rattle.group_expand.specs.Seen.{iface_numbers}
use Rattle.group_expand.specs.Spread.{marked}
use Rattle.zone_hops.specs.Search.{numbers_of, Goes, IsSearch}
use Rattle.zone_hops.proofs.search.fan_out.Given as goal

abbrev pub invariant-loop-j : goal.invariant-loop-j
invariant-loop-j l =
    let p = policy_of l.topo in
    Goes l.fn.seen l.fn.passed (numbers_of l.fn.left.items) l.seen l.passed (numbers_of l.left.items)
    × ((t : ℕ) → marked l.fn.passed l.fn.r.0 ≡ true → IsSearch p l.fn.at.0 t l.fn.seen l.fn.passed (numbers_of l.fn.left.items) (l.fn.r.0 ∷ []) [] →
    IsSearch p l.fn.at.0 t l.seen l.passed (numbers_of l.left.items) (l.fn.r.0 ∷ []) [])
    × ((k : ℕ) → k < l.j-index → net_at p (slice_index (iface_numbers l.row) k) ≢ l.fn.at.0 → marked l.seen (net_at p (slice_index (iface_numbers l.row) k)) ≡ true)
