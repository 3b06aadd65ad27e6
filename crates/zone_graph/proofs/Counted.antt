-- The zones' numbers are counted by the greatest one.
use Rattle.std.proofs.Common.{◌≡◌, ℕ, zero, suc, ◌<◌, ◌≤◌, List, [], ◌∷◌, length, map, arith}
use Rattle.std.specs.Prelude.{max, fold, slice_index}
use Rattle.policy_model.specs.Policy.{Policy}
use Rattle.policy_model.specs.Zones.{zone_count}
use Rattle.zone_graph.specs.Labels.{AreNumbers}
use Rattle.zone_graph.specs.Grouped.{Graph, IsGraphOf}

-- no greater than the count
top_below : (xs : List ℕ) (a count : ℕ) → a ≤ count → ((k : ℕ) → k < length xs → slice_index xs k < count) → fold max a (map suc xs) ≤ count
top_below [] a count low each = low
top_below (x ∷ xs) a count low each = top_below xs (max a (suc x)) count (let h = each 0 (omega arith) in omega (arith, h, low)) (λ k b. each (suc k) (omega (arith, b)))

start_below : (xs : List ℕ) (a : ℕ) → a ≤ fold max a (map suc xs)
start_below [] a = omega arith
start_below (x ∷ xs) a = let h = start_below xs (max a (suc x)) in omega (arith, h)

-- greater than each number
each_below : (xs : List ℕ) (a k : ℕ) → k < length xs → slice_index xs k < fold max a (map suc xs)
each_below [] a k b = absurd (omega (arith, b))
each_below (x ∷ xs) a zero b = let h = start_below xs (max a (suc x)) in omega (arith, h)
each_below (x ∷ xs) a (suc k) b = each_below xs (max a (suc x)) k (omega (arith, b))

reached : (zones : List ℕ) (count : ℕ) → AreNumbers zones count → count ≤ fold max 0 (map suc zones)
reached zones zero n = omega arith
reached zones (suc z) n = let w = n.used z (omega arith) in let h = each_below zones 0 w.0 w.1 in omega (arith, h, w.2)

pub counted : (p : Policy) (g : Graph) → IsGraphOf p g → zone_count (record { policy = p; zones = g.zones }) ≡ length g.nets
counted p g is =
    let high = top_below g.zones 0 (length g.nets) (omega arith) is.numbers.below in
    let low = reached g.zones (length g.nets) is.numbers in
    omega (arith, high, low)
