-- The pairs of different zones that lie inside other pairs, in one view.
use Rattle.std.specs.Prelude.{ℕ, ◌<◌, Bool, not, ◌==◌, List, filter, map, slice_index}
use Rattle.policy_model.specs.Policy.{Policy}
use Rattle.policy_model.specs.Blocks.{NetPair, all_pairs}
use Rattle.closed_pairs.specs.Reaching.{encloses_in}

-- a pair of numbers as a pair of networks
abbrev pub named : ℕ × ℕ → NetPair
named e = record { src = e.0; dst = e.1 }

abbrev pub numbers_of : NetPair → ℕ × ℕ
numbers_of e = (e.src, e.dst)

-- The networks lie in different zones.
abbrev pub are_parted : List ℕ → ℕ × ℕ → Bool
are_parted zones e = not (slice_index zones e.0 == slice_index zones e.1)

-- those of the pairs whose networks lie in different zones
abbrev pub parted : List ℕ → List NetPair → List (ℕ × ℕ)
parted zones es = filter (are_parted zones) (map numbers_of es)

-- the pairs of different zones that lie inside a pair, where the tags are in force
abbrev pub nested_in : List ℕ → Policy → List ℕ → ℕ × ℕ → List (ℕ × ℕ)
nested_in zones p tags outer = parted zones (filter (encloses_in p tags (named outer)) (all_pairs p))

-- Both networks are there.
pub record AreNets (count : ℕ) (e : ℕ × ℕ) : Type 0 where
  pub src : e.0 < count
  pub dst : e.1 < count

-- the zones of a pair of networks
abbrev pub zones_of : List ℕ → ℕ × ℕ → ℕ × ℕ
zones_of zones e = (slice_index zones e.0, slice_index zones e.1)
