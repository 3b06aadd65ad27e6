-- Pairs of numbers in ascending order, and the pairs of interfaces that a path uses.
use Rattle.std.specs.Prelude.{ℕ, List, [], ◌∷◌, map, flat_map}
use Rattle.std.specs.declared.cmp.Ordering.{Ordering}
use Rattle.std.specs.Ordering.{ordering_then, nat_cmp}
use Rattle.std.specs.BTreeSet.{insert_key}
use Rattle.policy_model.specs.Paths.{Crossing}
use Rattle.policy_model.specs.Marks.{Link}

-- the order of pairs
abbrev pub pair_order : ℕ × ℕ → ℕ × ℕ → Ordering
pair_order x y = ordering_then (nat_cmp x.0 y.0) (nat_cmp x.1 y.1)

-- the pairs with more of them, each once
abbrev pub with_pairs : List (ℕ × ℕ) → List (ℕ × ℕ) → List (ℕ × ℕ)
with_pairs keys [] = keys
with_pairs keys (p ∷ ps) = with_pairs (insert_key pair_order keys p) ps

-- the entering and the leaving interface of each crossing
abbrev pub crossing_pairs : List Crossing → List (ℕ × ℕ)
crossing_pairs path = map (λ c. (c.enter, c.leave)) path

-- the leaving interface of each crossing, and the entering one of the next, where one crossing comes before the path
abbrev pub links_after : Crossing → List Crossing → List (ℕ × ℕ)
links_after c [] = []
links_after c (d ∷ path) = (c.leave, d.enter) ∷ links_after d path

-- the leaving interface of each crossing, and the entering one of the next
abbrev pub link_pairs : List Crossing → List (ℕ × ℕ)
link_pairs [] = []
link_pairs (c ∷ path) = links_after c path

abbrev pub crossing_at : ℕ × ℕ → Crossing
crossing_at p = record { enter = p.0; leave = p.1 }

abbrev pub link_at : ℕ × ℕ → Link
link_at p = record { leave = p.0; enter = p.1 }

-- the pairs that walks use
abbrev pub all_crossing_pairs : List (List Crossing) → List (ℕ × ℕ)
all_crossing_pairs walks = flat_map crossing_pairs walks

abbrev pub all_link_pairs : List (List Crossing) → List (ℕ × ℕ)
all_link_pairs walks = flat_map link_pairs walks
