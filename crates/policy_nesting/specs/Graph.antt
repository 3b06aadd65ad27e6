-- Numbered nodes, each with the row of those that it names.
use Rattle.std.specs.Prelude.{◌≡◌, ℕ, zero, suc, ◌<◌, ◌==◌, ◌||◌, nat_lt, Bool, true, false, List, [], length, slice_index_or}
use Rattle.std.specs.List.{list_any, list_all}

abbrev pub row_at : List (List ℕ) → ℕ → List ℕ
row_at rows a = slice_index_or rows a []

-- whether the number is in the row
abbrev pub holds : List ℕ → ℕ → Bool
holds row k = list_any (λ j. j == k) row

-- b is named by a, or by one that a names, and so on, in so many steps at most
abbrev pub leads : List (List ℕ) → ℕ → ℕ → ℕ → Bool
leads rows zero a b = false
leads rows (suc n) a b = list_any (λ k. (k == b) || leads rows n k b) (row_at rows a)

-- there are so many nodes, the first of them a, of which each names the next
abbrev pub chains : List (List ℕ) → ℕ → ℕ → Bool
chains rows zero a = true
chains rows (suc zero) a = true
chains rows (suc (suc n)) a = list_any (chains rows (suc n)) (row_at rows a)

-- each of these is the number of a node
abbrev pub are_below : ℕ → List ℕ → Bool
are_below most row = list_all (λ k. nat_lt k most) row

-- the rows hold numbers of nodes
abbrev pub AreNodes : List (List ℕ) → Type 0
AreNodes rows = (a : ℕ) → are_below (length rows) (row_at rows a) ≡ true

abbrev pub flag_at : List Bool → ℕ → Bool
flag_at flags k = slice_index_or flags k false

-- the flag of each node says whether so many of which each names the next begin there
pub record AreChains (rows : List (List ℕ)) (n : ℕ) (flags : List Bool) : Type 0 where
  pub long : length flags ≡ length rows
  pub each : (k : ℕ) → k < length rows → flag_at flags k ≡ chains rows n k
