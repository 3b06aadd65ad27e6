-- What tables of names hold.
use Rattle.std.specs.Prelude.{◌≡◌, ℕ, ◌^◌, ◌<◌, ◌==◌, ◌&&◌, Bool, not, List, [], ◌∷◌, ◌++◌, map, filter, length, slice_index_or, Option, option_and_then, if◌then◌else◌}
use Rattle.std.specs.Str.{bytes_eq}
use Rattle.std.specs.List.{list_any}
use Rattle.spoc_base.specs.declared.place.Named.{Named}
use Rattle.policy_model.specs.Lists.{once_each}
use Rattle.policy_decls.specs.Names.{NameKind, TagName, number_of_kind, same_kind, Mention, first_below, is_again, shown_at}
use Rattle.policy_decls.specs.Uses.{is_tag}
use Rattle.policy_decls.specs.Said.{same_text}

-- what a name is looked up by among those of its kind
pub record Key : Type 0 where
  pub owner : List ℕ
  pub text : List ℕ

abbrev pub same_key : Key → Key → Bool
same_key a b = bytes_eq a.owner b.owner && bytes_eq a.text b.text

abbrev pub key : List ℕ → List ℕ → Key
key owner text = record { owner = owner; text = text }

abbrev pub key_of : Mention → Key
key_of name = key name.owner name.text

-- a name whatever its owner
abbrev pub text_of : Mention → Key
text_of name = key [] name.text

-- the names of a kind, in their order
abbrev pub of_kind : List Mention → NameKind → List Mention
of_kind names k = filter (λ name. same_kind name.kind k) names

-- the names of a kind that have numbers, from 0: of tags each one's first declaration
abbrev pub numbered : List Mention → NameKind → List Mention
numbered names k = if is_tag k then once_each same_text (of_kind names k) else of_kind names k

-- the keys of the names of the n-th kind
abbrev pub row_of : List Mention → ℕ → List Key
row_of names n = map key_of (filter (λ name. number_of_kind name.kind == n) names)

-- a row for each kind, and the tags by their texts alone
pub record AreTables (names : List Mention) (rows : List (List Key)) (texts : List Key) : Type 0 where
  pub kinds : length rows ≡ 12
  pub keys : (n : ℕ) → n < 12 → slice_index_or rows n [] ≡ row_of names n
  pub tags : texts ≡ map text_of (once_each same_text (of_kind names TagName))

-- the tags' texts after one more name
abbrev pub tags_after : List Key → Mention → List Key
tags_after texts name = if is_tag name.kind && not (list_any (same_key (text_of name)) texts) then texts ++ text_of name ∷ [] else texts

-- the first name of the list that stands in it before
abbrev pub twice_among : List Mention → Option Named
twice_among names = option_and_then (shown_at names) (first_below (is_again names) (length names))

-- what is true of a table of names: there are fewer of them than numbers, and each row holds those of its kind
pub record IsTable (names : List Mention) (rows : List (List Key)) (texts : List Key) : Type 0 where
  pub few : length names < 2 ^ 32
  pub tables : AreTables names rows texts
