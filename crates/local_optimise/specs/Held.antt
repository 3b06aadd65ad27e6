-- Lines that are held, by place: the first one has place 0.
use Rattle.std.specs.Prelude.{◌≡◌, ℕ, ◌<◌, Bool, true, false, not, ◌&&◌, nat_lt, List, length, map, slice_index_or, Option, Some, None}
use Rattle.std.specs.List.{list_any}
use Rattle.policy_model.specs.Filters.{Line, line_covers, line_meets, deny_all}
use Rattle.policy_model.specs.Optimised.{same_action}
use Rattle.dev_config.specs.Seen.{line_of}
use Rattle.local_optimise.specs.declared.shelf.Shelf.{Shelf}
use Rattle.local_optimise.specs.declared.keys.Mask.{Mask}
use Rattle.local_optimise.specs.declared.keys.Key.{Key}
use Rattle.local_optimise.specs.Keys.{mask_of, key_of, key_by, is_cover, may_cover, has_stem, src_stem, dst_stem}
use Rattle.local_optimise.specs.Chained.{same_mask, same_key, greatest, AreChained}

abbrev pub line_at : List Line → ℕ → Line
line_at lines i = slice_index_or lines i deny_all

-- the last of the lines that covers a line, with a fitting action
abbrev pub last_cover : Bool → Line → List Line → Option ℕ
last_cover any l lines = greatest (λ i. is_cover any l (line_at lines i)) (length lines)

-- a line of the other action that meets the line
abbrev pub is_across : Line → Line → Bool
is_across l m = not (same_action l.permit m.permit) && line_meets m l

-- the last of the lines that has the other action and meets a line
abbrev pub last_across : Line → List Line → Option ℕ
last_across l lines = greatest (λ i. is_across l (line_at lines i)) (length lines)

-- There is a first place, and the second one isn't behind it.
abbrev pub is_nearer : Option ℕ → Option ℕ → Bool
is_nearer None across = false
is_nearer (Some cover) None = true
is_nearer (Some cover) (Some across) = nat_lt across cover

-- of the lines with the key, the last one that covers a line
abbrev pub last_under : Key → Line → List Line → Option ℕ
last_under k l lines = greatest (λ i. same_key k (key_of (line_at lines i)) && line_covers (line_at lines i) l) (length lines)

-- of the lines with one of the masks that may cover a line, the last one that does
abbrev pub last_by : Bool → Line → List Mask → List Line → Option ℕ
last_by any l masks lines =
    greatest (λ i. list_any (λ mask. may_cover any l mask && same_key (key_by mask l) (key_of (line_at lines i))) masks && line_covers (line_at lines i) l) (length lines)

-- the lines of the shelf
abbrev pub held_by : Shelf → List Line
held_by shelf = map line_of shelf.lines.items

-- the shelf's lines are found by their keys
pub record IsIndexed (shelf : Shelf) : Type 0 where
  pub count : length shelf.chains.links.items ≡ length shelf.lines.items
  pub chained : AreChained shelf.chains (λ i. key_of (line_at (held_by shelf) i))
  pub masks : (i : ℕ) → i < length shelf.lines.items → list_any (same_mask (mask_of (line_at (held_by shelf) i))) shelf.masks.keys ≡ true
  pub sources : (i : ℕ) → i < length shelf.lines.items → has_stem shelf.sources.stems.keys (src_stem (line_at (held_by shelf) i)) ≡ true
  pub destinations : (i : ℕ) → i < length shelf.lines.items → has_stem shelf.destinations.stems.keys (dst_stem (line_at (held_by shelf) i)) ≡ true
