-- Pairs of numbers in order.
use Rattle.std.specs.Prelude.{◌≡◌, ℕ, ◌<◌, ◌⊎◌, ◌==◌, if◌then◌else◌, List, [], ◌∷◌}
use Rattle.std.specs.declared.cmp.Ordering.{Ordering}
use Rattle.std.specs.List.{AllPairs, Contains}
use Rattle.std.specs.Ordering.{ordering_then, nat_cmp}

-- by the first number, and then by the second
abbrev pub IsBefore : ℕ × ℕ → ℕ × ℕ → Type 0
IsBefore a b = (a.0 < b.0) ⊎ ((a.0 ≡ b.0) × (a.1 < b.1))

-- the same, as a comparison
abbrev pub pair_order : ℕ × ℕ → ℕ × ℕ → Ordering
pair_order x y = ordering_then (nat_cmp x.0 y.0) (nat_cmp x.1 y.1)

-- The same pairs, each once and in order.
pub record AreOnce (old new : List (ℕ × ℕ)) : Type 0 where
  pub order : AllPairs IsBefore new
  pub kept : (e : ℕ × ℕ) → Contains old e → Contains new e
  pub added : (e : ℕ × ℕ) → Contains new e → Contains old e

-- two numbers that differ, both ways round
abbrev pub both_ways : ℕ → ℕ → List (ℕ × ℕ)
both_ways a b = if a == b then [] else (a, b) ∷ (b, a) ∷ []
