-- Rows of tags that grow by one tag at a time.
use Rattle.std.specs.Prelude.{◌≡◌, ◌≢◌, ℕ, ◌+◌, ◌<◌, ◌↔◌, Bool, true, cond, Vec, List, [], ◌∷◌, ◌++◌, length, map, filter, slice_index_or}
use Rattle.spoc_base.specs.declared.ids.TagId.{TagId}
use Rattle.policy_model.specs.Lists.{numbers_below}
use Rattle.zone_graph.specs.Grouped.{row_items}
use Rattle.nat_domains.specs.Marks.{is_marked}

-- the numbers of the tags in each row
abbrev pub tag_rows : {A : Type 0} → List (Vec TagId A) → List (List ℕ)
tag_rows rows = map (λ row. map (λ tag. tag.0) row) (row_items rows)

-- There are so many rows, all empty.
pub record AreBare (rows : List (List ℕ)) (count : ℕ) : Type 0 where
  pub each : length rows ≡ count
  pub bare : (k : ℕ) → slice_index_or rows k [] ≡ []

-- The tag was put at the end of a row, or nothing was.
pub record IsPutIf (tag k : ℕ) (yes : Bool) (rows new : List (List ℕ)) : Type 0 where
  pub here : slice_index_or new k [] ≡ slice_index_or rows k [] ++ cond yes (tag ∷ []) []
  pub others : (j : ℕ) → j ≢ k → slice_index_or new j [] ≡ slice_index_or rows j []

-- The tag was put at the end of each marked row.
pub record HasAdded (tag : ℕ) (marks : List Bool) (rows new : List (List ℕ)) : Type 0 where
  pub each : length new ≡ length rows
  pub row : (k : ℕ) → k < length rows → slice_index_or new k [] ≡ slice_index_or rows k [] ++ cond (is_marked marks k) (tag ∷ []) []

-- Each row has, in ascending order, just the tags below a number for which a fact holds.
pub record AreListed (P : ℕ → ℕ → Type 0) (rows : List (List ℕ)) (bound : ℕ) : Type 0 where
  pub test : ℕ → ℕ → Bool
  pub decides : (k tag : ℕ) → k < length rows → tag < bound → (test k tag ≡ true) ↔ P k tag
  pub are : (k : ℕ) → k < length rows → slice_index_or rows k [] ≡ filter (test k) (numbers_below bound)

-- One tag more is listed.
pub record ListsOneMore (P : ℕ → ℕ → Type 0) (tag : ℕ) (rows new : List (List ℕ)) : Type 0 where
  pub each : length new ≡ length rows
  pub more : AreListed P rows tag → AreListed P new (tag + 1)
