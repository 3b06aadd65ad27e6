-- The marks of the walks from one zone to several, by the zone where they end.
use Rattle.std.specs.Prelude.{◌≡◌, ◌≢◌, ℕ, ◌==◌, true, not, ◌&&◌, if◌then◌else◌, Option, None, Some, is_some, List, [], map}
use Rattle.std.specs.Ordering.{nat_cmp}
use Rattle.std.specs.BTreeMap.{BTreeMap}
use Rattle.std.specs.BTreeMap.{get}
use Rattle.spoc_base.specs.declared.ids.ZoneId.{ZoneId}
use Rattle.policy_model.specs.Lists.{has}
use Rattle.policy_model.specs.Paths.{Crossing}
use Rattle.policy_model.specs.Zones.{Site}
use Rattle.policy_model.specs.Walks.{allowed_walks}
use Rattle.policy_model.specs.Marks.{Link, marked_crossings, marked_links}
use Rattle.zone_graph.specs.declared.marks.PairMarks.{PairMarks}
use Rattle.path_walk.specs.Seen.{crossing_seen, link_seen}
use Rattle.path_walk.specs.Pairs.{with_pairs, crossing_pairs, link_pairs, crossing_at, link_at, all_crossing_pairs, all_link_pairs}
use Rattle.path_walk.specs.declared.marks.Marks.{Marks}

-- a table of marks: its two zones, its crossings and its links
pub record Table : Type 0 where
  pub from : ℕ
  pub to : ℕ
  pub crossings : List Crossing
  pub links : List Link

abbrev pub table_seen : PairMarks → Table
table_seen t = record { from = t.from.0; to = t.to.0; crossings = map crossing_seen t.marks.crossings; links = map link_seen t.marks.links }

-- the table from one zone to another
abbrev pub table_between : Site → ℕ → ZoneId → Table
table_between s from z = record { from = from; to = z.0; crossings = marked_crossings s from z.0; links = marked_links s from z.0 }

-- the table of a pair of zones
abbrev pub table_of : Site → ZoneId × ZoneId → Table
table_of s z = table_between s z.0.0 z.1

abbrev pub pair_from : ZoneId → ZoneId → ZoneId × ZoneId
pair_from from z = (from, z)

-- the zones that are looked for have marks, but for the one where walks start; no other zone has any
abbrev pub HasEnds : ℕ → List ℕ → BTreeMap ℕ Marks → Type 0
HasEnds from wanted ends = (to : ℕ) → is_some (get nat_cmp ends to) ≡ (has wanted to && not (from == to))

-- the same zones have marks
abbrev pub HaveSameEnds : BTreeMap ℕ Marks → BTreeMap ℕ Marks → Type 0
HaveSameEnds old new = (to : ℕ) → is_some (get nat_cmp new to) ≡ is_some (get nat_cmp old to)

-- the crossings that are marked, and the links: none where there are no marks
abbrev pub crossings_in : Option Marks → List Crossing
crossings_in None = []
crossings_in (Some m) = map crossing_at m.crossings.keys

abbrev pub links_in : Option Marks → List Link
links_in None = []
links_in (Some m) = map link_at m.links.keys

-- the table of the marks of a zone
abbrev pub table_in : BTreeMap ℕ Marks → ℕ → ℕ → Table
table_in ends from to = record { from = from; to = to; crossings = crossings_in (get nat_cmp ends to); links = links_in (get nat_cmp ends to) }

-- nothing is marked, and the zone is one that is looked for
pub record IsNew (from : ℕ) (wanted : List ℕ) (to : ℕ) (m : Marks) : Type 0 where
  pub crossings : m.crossings.keys ≡ []
  pub links : m.links.keys ≡ []
  pub elsewhere : from ≢ to
  pub named : has wanted to ≡ true

abbrev pub AreNew : ℕ → List ℕ → BTreeMap ℕ Marks → Type 0
AreNew from wanted ends = (to : ℕ) (m : Marks) → get nat_cmp ends to ≡ Some m → IsNew from wanted to m

-- all walks to the zone are marked
pub record HasAll (s : Site) (from to : ℕ) (m : Marks) : Type 0 where
  pub crossings : m.crossings.keys ≡ with_pairs [] (all_crossing_pairs (allowed_walks s from to))
  pub links : m.links.keys ≡ with_pairs [] (all_link_pairs (allowed_walks s from to))

abbrev pub AreAll : Site → ℕ → BTreeMap ℕ Marks → Type 0
AreAll s from ends = (to : ℕ) (m : Marks) → get nat_cmp ends to ≡ Some m → HasAll s from to m

-- the marks of a zone, after a walk was added that ends in the zone z
pub record IsGrown (z : ℕ) (path : List Crossing) (old : BTreeMap ℕ Marks) (to : ℕ) (m : Marks) : Type 0 where
  pub before : Marks
  pub had : get nat_cmp old to ≡ Some before
  pub crossings : m.crossings.keys ≡ (if z == to then with_pairs before.crossings.keys (crossing_pairs path) else before.crossings.keys)
  pub links : m.links.keys ≡ (if z == to then with_pairs before.links.keys (link_pairs path) else before.links.keys)

abbrev pub IsAdded : ℕ → List Crossing → BTreeMap ℕ Marks → BTreeMap ℕ Marks → Type 0
IsAdded z path old new = (to : ℕ) (m : Marks) → get nat_cmp new to ≡ Some m → IsGrown z path old to m
