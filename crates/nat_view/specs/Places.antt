-- Which table each zone and each router has. All zones come before all routers.
use Rattle.std.specs.Prelude.{◌≡◌, ◌≢◌, ℕ, ◌+◌, ◌-◌, ◌<◌, ◌≤◌, List, [], length, map, take, drop, slice_index_or, nat_lt, if◌then◌else◌}
use Rattle.std.specs.List.{All}
use Rattle.policy_model.specs.Policy.{Policy}
use Rattle.policy_model.specs.Tags.{Views}
use Rattle.policy_model.specs.FirstFault.{ViewPlace, AtZone, AtRouter}
use Rattle.nat_view.specs.Shown.{tags_of, IsTableOf}
use Rattle.nat_view.specs.declared.table.Table.{Table}

-- the tags of a table
abbrev pub tags_at : List Table → ℕ → List ℕ
tags_at tables k = slice_index_or (map tags_of tables) k []

abbrev pub rows_of : List Table → List ℕ → List (List ℕ)
rows_of tables places = map (tags_at tables) places

-- the first rows are those of zones
abbrev pub views_of : ℕ → List (List ℕ) → Views
views_of zones rows = record { zones = take zones rows; routers = drop zones rows }

-- the place whose row is the k-th
abbrev pub place_at : ℕ → ℕ → ViewPlace
place_at zones k = if nat_lt k zones then AtZone k else AtRouter (k - zones)

-- No two tables have the same tags.
abbrev pub AreUnlike : List Table → Type 0
AreUnlike tables = (i j : ℕ) → i < length tables → j < length tables → tags_at tables i ≡ tags_at tables j → i ≡ j

-- No table has the tags.
abbrev pub HasNoneOf : List Table → List ℕ → Type 0
HasNoneOf tables tags = (k : ℕ) → k < length tables → tags_at tables k ≢ tags

-- Places with equal rows have one table. The places are the numbers of tables.
abbrev pub ShareTables : List (List ℕ) → List ℕ → Type 0
ShareTables rows places = (i j : ℕ) → i < length rows → j < length rows → slice_index_or rows i [] ≡ slice_index_or rows j [] → slice_index_or places i 0 ≡ slice_index_or places j 0

-- The tables are those of their tags, each for other ones, and the first k rows have theirs.
pub record ArePlaced (p : Policy) (wanted : List (List ℕ)) (tables : List Table) (places : List ℕ) (k : ℕ) : Type 0 where
  pub tables_are : All (IsTableOf p) tables
  pub unlike : AreUnlike tables
  pub below : All (λ i. i < length tables) places
  pub rows : rows_of tables places ≡ take k wanted

-- Each row has a table.
pub record AreTables (p : Policy) (tables : List Table) (places : List ℕ) : Type 0 where
  pub tables_are : All (IsTableOf p) tables
  pub below : All (λ i. i < length tables) places

-- The zones come first among the places, and both zones and routers have numbers.
pub record AreFew (zones count : ℕ) : Type 0 where
  pub first : zones ≤ count
  pub routers : count ≤ zones + 65535
  pub numbered : zones < 4294967296

-- The tables that were there stay, and one of them all has the tags.
pub record HasTable (p : Policy) (tags : List ℕ) (old new : List Table) (k : ℕ) : Type 0 where
  pub tables_are : All (IsTableOf p) new
  pub unlike : AreUnlike new
  pub longer : length old ≤ length new
  pub kept : (i : ℕ) → i < length old → tags_at new i ≡ tags_at old i
  pub there : k < length new
  pub is : tags_at new k ≡ tags
