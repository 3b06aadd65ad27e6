-- At which interfaces walks enter, by tables of marks.
use Rattle.std.specs.Prelude.{◌≡◌, ℕ, ◌<◌, ◌-◌, ◌==◌, Bool, true, if◌then◌else◌, Some, is_some, List, [], ◌∷◌, ◌++◌, filter, length, map, slice_get, slice_index, slice_index_or}
use Rattle.std.specs.BTreeMap.{BTreeMap}
use Rattle.std.specs.BTreeMap.{get}
use Rattle.std.specs.List.{list_any, Contains}
use Rattle.policy_model.specs.Lists.{numbers_below}
use Rattle.policy_model.specs.Paths as plain
use Rattle.policy_model.specs.Places.{is_number}
use Rattle.policy_model.specs.Zones.{Site, zone_of}
use Rattle.policy_model.specs.Marks.{marked_crossings}
use Rattle.policy_model.specs.Walks.{enters_on_way}
use Rattle.zone_graph.specs.declared.marks.Crossing.{Crossing}
use Rattle.zone_graph.specs.declared.marks.PairMarks.{PairMarks}
use Rattle.rule_distribute.specs.Pairs.{pair_order}
use Rattle.rule_distribute.specs.Rows.{pair_at}

abbrev pub crossing_seen : Crossing → plain.Crossing
crossing_seen c = record { enter = c.enter.0; leave = c.leave.0 }

-- the two zones of a table
abbrev pub zones_named : PairMarks → ℕ × ℕ
zones_named t = (t.from.0, t.to.0)

-- Each table has the crossings of all allowed walks between its zones.
abbrev pub AreMarked : Site → List PairMarks → Type 0
AreMarked s tables = (k : ℕ) (t : PairMarks) → k < length tables → slice_index_or tables k t ≡ t → map crossing_seen t.marks.crossings ≡ marked_crossings s t.from.0 t.to.0

-- Each of these pairs of zones has a table, in any order, and others may have one too.
pub record HaveMarks (s : Site) (wanted : List (ℕ × ℕ)) (tables : List PairMarks) : Type 0 where
  pub there : (e : ℕ × ℕ) → Contains wanted e → Contains (map zones_named tables) e
  pub marks : AreMarked s tables

-- The first of these pairs, so many, are found at their places, or where such a pair stands again; and no other is.
pub record AreFiled (names : List (ℕ × ℕ)) (count : ℕ) (places : BTreeMap (ℕ × ℕ) ℕ) : Type 0 where
  pub there : (k : ℕ) → k < count → is_some (get pair_order places (pair_at names k)) ≡ true
  pub at : (e : ℕ × ℕ) (k : ℕ) → get pair_order places e ≡ Some k → (k < count) × (pair_at names k ≡ e)

-- whether the list ends in the number
abbrev pub ends_in : List ℕ → ℕ → Bool
ends_in xs w = is_number (slice_get xs (length xs - 1)) w

-- the list with the number at its end
abbrev pub with_last : List ℕ → ℕ → List ℕ
with_last xs w = if ends_in xs w then xs else xs ++ w ∷ []

-- whether a crossing enters at the interface
abbrev pub enters : List Crossing → ℕ → Bool
enters cs i = list_any (λ c. c.enter.0 == i) cs

-- what stands in a row behind the old one
abbrev pub with_entered : List Crossing → ℕ → ℕ → List ℕ → List ℕ
with_entered cs w i row = row ++ (if enters cs i then w ∷ [] else [])

-- whether an allowed walk between the zones of the w-th pair enters at the interface
abbrev pub is_on_way : Site → List (ℕ × ℕ) → ℕ → ℕ → Bool
is_on_way s pairs i w = enters_on_way s (zone_of s (pair_at pairs w).0) (zone_of s (pair_at pairs w).1) i

-- the places of the pairs on path at an interface, of the first ones
abbrev pub path_row : Site → List (ℕ × ℕ) → ℕ → ℕ → List ℕ
path_row s pairs count i = filter (λ w. is_on_way s pairs i w) (numbers_below count)

-- each number in each row is below
pub record AreLow (rows : List (List ℕ)) (w : ℕ) : Type 0 where
  pub low : (i k : ℕ) → k < length (slice_index_or rows i []) → slice_index (slice_index_or rows i []) k < w

-- each crossing enters at an interface that has a row
abbrev pub EnterBelow : List Crossing → ℕ → Type 0
EnterBelow cs count = (k : ℕ) (c : Crossing) → k < length cs → slice_index_or cs k c ≡ c → c.enter.0 < count

-- The pairs' networks are there, and their zones are among those that have tables.
pub record AreNamed (s : Site) (pairs names : List (ℕ × ℕ)) : Type 0 where
  pub src : (w : ℕ) → w < length pairs → (pair_at pairs w).0 < length s.policy.nets
  pub dst : (w : ℕ) → w < length pairs → (pair_at pairs w).1 < length s.policy.nets
  pub named : (w : ℕ) → w < length pairs → Contains names (zone_of s (pair_at pairs w).0, zone_of s (pair_at pairs w).1)
