-- Tables of marks by their two zones.
use Rattle.std.specs.Prelude.{◌≡◌, ℕ, ◌<◌, ◌==◌, true, false, Some, is_some, List, map, length, slice_index_or}
use Rattle.std.specs.BTreeMap.{BTreeMap}
use Rattle.std.specs.BTreeMap.{get}
use Rattle.std.specs.List.{Contains}
use Rattle.policy_model.specs.Zones.{Site, zone_of}
use Rattle.policy_model.specs.Marks.{marked_crossings, marked_links}
use Rattle.policy_model.specs.Permits.{Permit}
use Rattle.policy_model.specs.Routes.{is_used}
use Rattle.zone_graph.specs.declared.marks.MarkTable.{MarkTable}
use Rattle.zone_graph.specs.declared.marks.PairMarks.{PairMarks}
use Rattle.path_walk.specs.Seen.{crossing_seen, link_seen}
use Rattle.static_routes.specs.Chains.{pair_order}

-- the two zones of a table
abbrev pub zones_named : PairMarks → ℕ × ℕ
zones_named t = (t.from.0, t.to.0)

abbrev pub pair_at : List (ℕ × ℕ) → ℕ → ℕ × ℕ
pair_at pairs w = slice_index_or pairs w (0, 0)

-- the marks are those of all allowed walks between the two zones
pub record AreMarksOf (s : Site) (z : ℕ × ℕ) (t : MarkTable) : Type 0 where
  pub crossings : map crossing_seen t.crossings ≡ marked_crossings s z.0 z.1
  pub links : map link_seen t.links ≡ marked_links s z.0 z.1

-- Each table has the marks of all allowed walks between its zones.
abbrev pub AreMarked : Site → List PairMarks → Type 0
AreMarked s tables = (k : ℕ) (t : PairMarks) → k < length tables → slice_index_or tables k t ≡ t → AreMarksOf s (zones_named t) t.marks

-- The zones of each two networks with traffic, where they differ, have a table, in any order; others may have one too.
pub record HaveMarks (s : Site) (permits : List Permit) (tables : List PairMarks) : Type 0 where
  pub there : (u v : ℕ) → is_used permits u v ≡ true → (zone_of s u == zone_of s v) ≡ false → Contains (map zones_named tables) (zone_of s u, zone_of s v)
  pub marks : AreMarked s tables

-- The first of these pairs, so many, are found at their places, or where such a pair stands again; and no other is.
pub record AreFiled (names : List (ℕ × ℕ)) (count : ℕ) (places : BTreeMap (ℕ × ℕ) ℕ) : Type 0 where
  pub there : (k : ℕ) → k < count → is_some (get pair_order places (pair_at names k)) ≡ true
  pub at : (e : ℕ × ℕ) (k : ℕ) → get pair_order places e ≡ Some k → (k < count) × (pair_at names k ≡ e)
