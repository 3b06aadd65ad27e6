-- A walk over the names of groups, for the first that lies on a circle.
use Rattle.std.proofs.Common.{◌≡◌, ◌∙◌, refl, sym, ap, ℕ, ◌+◌, ◌<◌, ◌≤◌, Bool, true, false, ◌&&◌, ◌||◌, cond, List, [], ◌∷◌, ◌++◌, length, map, filter, drop, get_or, Some, None, append_assoc}
use Rattle.std.specs.Str.{bytes_eq}
use Rattle.std.specs.List.{list_any, list_all}
use Rattle.std.proofs.lemmas.List.{drop_more, drop_all, get_or-map, length-map}
use Rattle.std.proofs.lemmas.List.Folds.{list_any-append}
use Rattle.std.proofs.lemmas.Slice.Eq.{bytes_eq-Decides}
use Rattle.spoc_ast.specs.Written.{DeclText}
use Rattle.policy_decls.specs.Names as plain
use Rattle.policy_decls.specs.Names.{GroupName, ProtocolGroupName, number_of_kind, same_kind, declared_names, shown_at}
use Rattle.policy_decls.specs.Uses.{names_it, is_tag}
use Rattle.policy_decls.specs.Nesting.{is_nesting, is_on_circle, nesting_names}
use Rattle.policy_decls.specs.Faults.{name_on_circle}
use Rattle.policy_names.specs.declared.mention.Mention.{Mention}
use Rattle.policy_names.specs.declared.mention.NameKind.{NameKind}
use Rattle.policy_names.specs.declared.mention.NameKind.TheVariants.{Network, Host, Tag, Router, Iface, Group, Area, Aggregate, Protocol, ProtocolGroup, Restriction, Service}
use Rattle.policy_names.specs.Seen.{kind_seen, mention_seen}
use Rattle.policy_nesting.proofs.Testing.{both, or_first, or_second, own_number}
use Rattle.policy_nesting.proofs.Reaching.{all_filter, all_filter_still, all_index}

-- ---- each declared name is known

names_itself : (x : plain.Mention) → names_it x x ≡ true
names_itself x =
    both (same_kind x.kind x.kind && bytes_eq x.text x.text) (is_tag x.kind || bytes_eq x.owner x.owner)
    (both (same_kind x.kind x.kind) (bytes_eq x.text x.text) (own_number (number_of_kind x.kind)) ((bytes_eq-Decides x.text x.text).1 refl))
    (or_second (is_tag x.kind) (bytes_eq x.owner x.owner) ((bytes_eq-Decides x.owner x.owner).1 refl))

all_there : (before rest all : List plain.Mention) → all ≡ before ++ rest → list_all (λ x. list_any (names_it x) all) rest ≡ true
all_there before [] all e = refl
all_there before (x ∷ xs) all e =
    both (list_any (names_it x) all) (list_all (λ y. list_any (names_it y) all) xs)
    (ap (list_any (names_it x)) e ∙ list_any-append (names_it x) before (x ∷ xs) ∙ or_second (list_any (names_it x) before) (names_it x x || list_any (names_it x) xs) (or_first (names_it x x) (list_any (names_it x) xs) (names_itself x)))
    (all_there (before ++ x ∷ []) xs all (e ∙ sym (append_assoc before (x ∷ []) xs)))

module _ (decls : List DeclText) (names : List Mention) (same : map mention_seen names ≡ nesting_names decls) (i : ℕ) (d : Mention) (within : i < length names) where
  at_index : (p : plain.Mention → Bool) → list_all p (nesting_names decls) ≡ true → p (mention_seen (get_or names i d)) ≡ true
  at_index p h = ap p (sym (get_or-map mention_seen names i d (mention_seen d) within)) ∙ all_index p (map mention_seen names) i (mention_seen d) (ap (list_all p) same ∙ h) (simp length-map within)

  pub nests_here : is_nesting (mention_seen (get_or names i d)) ≡ true
  nests_here = at_index is_nesting (all_filter is_nesting is_nesting (declared_names decls))

  pub known_here : list_any (names_it (mention_seen (get_or names i d))) (declared_names decls) ≡ true
  known_here =
      at_index (λ x. list_any (names_it x) (declared_names decls))
      (all_filter_still (λ x. list_any (names_it x) (declared_names decls)) is_nesting (declared_names decls) (all_there [] (declared_names decls) (declared_names decls) refl))

pub no_group : (k : NameKind) → (k ≡ Group → ⊥) → (k ≡ ProtocolGroup → ⊥) → (same_kind (kind_seen k) GroupName || same_kind (kind_seen k) ProtocolGroupName) ≡ false
no_group Network h g = refl
no_group Host h g = refl
no_group Tag h g = refl
no_group Router h g = refl
no_group Iface h g = refl
no_group Group h g = absurd (h refl)
no_group Area h g = refl
no_group Aggregate h g = refl
no_group Protocol h g = refl
no_group ProtocolGroup h g = absurd (g refl)
no_group Restriction h g = refl
no_group Service h g = refl

-- ---- the walk

module _ (p : plain.Mention → Bool) (names : List Mention) (i : ℕ) where
  abbrev seen : List Mention → List plain.Mention
  seen xs = filter p (map mention_seen xs)

  module _ (d : Mention) (within : i < length names) (so_far : seen names ≡ seen (drop i names)) where
    here : seen (drop i names) ≡ cond (p (mention_seen (get_or names i d))) (mention_seen (get_or names i d) ∷ seen (drop (i + 1) names)) (seen (drop (i + 1) names))
    here = ap seen (drop_more names i d within)

    pub walk_found : p (mention_seen (get_or names i d)) ≡ true → shown_at (seen names) 0 ≡ Some (get_or names i d).shown
    walk_found e =
        ap (λ l. shown_at l 0) (so_far ∙ here ∙ ap (λ b. cond b (mention_seen (get_or names i d) ∷ seen (drop (i + 1) names)) (seen (drop (i + 1) names))) e)

    pub walk_on : p (mention_seen (get_or names i d)) ≡ false → seen names ≡ seen (drop (i + 1) names)
    walk_on e = so_far ∙ here ∙ ap (λ b. cond b (mention_seen (get_or names i d) ∷ seen (drop (i + 1) names)) (seen (drop (i + 1) names))) e

  pub walk_over : length names ≤ i → seen names ≡ seen (drop i names) → shown_at (seen names) 0 ≡ None
  walk_over l e = ap (λ xs. shown_at xs 0) (e ∙ ap seen (drop_all i names l))

-- ---- whether the name here lies on a circle

module _ (decls : List DeclText) (table : List plain.Mention) (names : List Mention) (i : ℕ) (d : Mention) (on : Bool) (within : i < length names) (same : map mention_seen names ≡ nesting_names decls) (declared : table ≡ declared_names decls)
    (so_far : filter (is_on_circle decls) (map mention_seen names) ≡ filter (is_on_circle decls) (map mention_seen (drop i names)))
    (answer : is_nesting (mention_seen (get_or names i d)) ≡ true → list_any (names_it (mention_seen (get_or names i d))) table ≡ true → on ≡ is_on_circle decls (mention_seen (get_or names i d))) where
  right : is_on_circle decls (mention_seen (get_or names i d)) ≡ on
  right = sym (answer (nests_here decls names same i d within) (ap (list_any (names_it (mention_seen (get_or names i d)))) declared ∙ known_here decls names same i d within))

  pub first_here : on ≡ true → Some (get_or names i d).shown ≡ name_on_circle decls
  first_here e = sym (ap (λ l. shown_at (filter (is_on_circle decls) l) 0) (sym same) ∙ walk_found (is_on_circle decls) names i d within so_far (right ∙ e))

  pub none_here : on ≡ false → filter (is_on_circle decls) (map mention_seen names) ≡ filter (is_on_circle decls) (map mention_seen (drop (i + 1) names))
  none_here e = walk_on (is_on_circle decls) names i d within so_far (right ∙ e)
