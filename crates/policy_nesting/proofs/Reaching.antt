-- A group reaches another where its node leads to that of the other.
use Rattle.std.proofs.Common.{arith, ◌≡◌, ◌∙◌, refl, sym, ap, subst, ℕ, zero, suc, ◌<◌, ◌≤◌, Bool, true, false, not, ◌&&◌, ◌||◌, cond, eqb, nat_lt, List, [], ◌∷◌, length, map, filter, flat_map, get_or, position, Option, Some, None, is_some}
use Rattle.std.specs.Str.{bytes_eq}
use Rattle.std.specs.List.{list_any, list_all}
use Rattle.std.proofs.lemmas.List.{length-map, get_or-map, get_or_past}
use Rattle.std.proofs.lemmas.List.Folds.{list_all-append}
use Rattle.std.proofs.lemmas.List.Quantifiers.{position-Some}
use Rattle.std.proofs.lemmas.Map.Views.{any-filter_same}
use Rattle.std.proofs.lemmas.Slice.Eq.{bytes_eq-Decides}
use Rattle.std.proofs.lemmas.Bool.{false≢true}
use Rattle.std.proofs.lemmas.Bool.Decides.{nat_tests}
use Rattle.spoc_ast.specs.Written.{DeclText}
use Rattle.policy_decls.specs.Names.{Mention, number_of_kind, same_kind, same_name, names_in, declared_names, shown_at}
use Rattle.policy_decls.specs.Uses.{uses_in, used_names, names_it, is_tag, is_unknown}
use Rattle.policy_decls.specs.Nesting.{nested_in, reaches, nests}
use Rattle.policy_decls.specs.Said.{number_among, or_zero}
use Rattle.policy_decls.specs.Faults.{name_unknown}
use Rattle.policy_names.specs.Tables.{of_kind}
use Rattle.policy_names.proofs.TestLemmas.{list_any_map}
use Rattle.policy_names.proofs.Known.{has_position}
use Rattle.policy_nesting.specs.declared.nodes.Nesting.{Nesting}
use Rattle.policy_nesting.specs.declared.nodes.Nesting.TheVariants.{Objects, Protocols}
use Rattle.policy_nesting.specs.Graph.{row_at, leads, chains, are_below, AreNodes}
use Rattle.policy_nesting.specs.Nodes.{kind_of, nodes_of}
use Rattle.policy_nesting.proofs.Testing.{and_first, and_second, both, same_number, own_number, below, all_then, any_same}
use Rattle.policy_nesting.proofs.Apart.{Same, same_of, of_same, same_back, same_on, Apart, apart_filter, apart_at}

-- ---- lists

all_flat : {A B : Type 0} (p : B → Bool) (f : A → List B) (xs : List A) → list_all p (flat_map f xs) ≡ list_all (λ x. list_all p (f x)) xs
all_flat p f [] = refl
all_flat p f (x ∷ xs) = list_all-append p (f x) (flat_map f xs) ∙ ap (λ b. list_all p (f x) && b) (all_flat p f xs)

all_map : {A B : Type 0} (p : B → Bool) (f : A → B) (xs : List A) → list_all p (map f xs) ≡ list_all (λ x. p (f x)) xs
all_map p f [] = refl
all_map p f (x ∷ xs) = ap (λ b. p (f x) && b) (all_map p f xs)

module _ {A : Type 0} (p f : A → Bool) where
  still : (b : Bool) (x : A) (xs : List A) → p x ≡ true → list_all p xs ≡ true → list_all p (cond b (x ∷ xs) xs) ≡ true
  still true x xs e h = both (p x) (list_all p xs) e h
  still false x xs e h = h

  pub all_filter_still : (xs : List A) → list_all p xs ≡ true → list_all p (filter f xs) ≡ true
  all_filter_still [] e = e
  all_filter_still (x ∷ xs) e = still (f x) x (filter f xs) (and_first (p x) (list_all p xs) e) (all_filter_still xs (and_second (p x) (list_all p xs) e))

  kept : (b : Bool) (x : A) (xs : List A) → f x ≡ b → list_all f xs ≡ true → list_all f (cond b (x ∷ xs) xs) ≡ true
  kept true x xs e h = both (f x) (list_all f xs) e h
  kept false x xs e h = h

  pub all_filter : (xs : List A) → list_all f (filter f xs) ≡ true
  all_filter [] = refl
  all_filter (x ∷ xs) = kept (f x) x (filter f xs) refl (all_filter xs)

  all_both : (xs : List A) → list_all p xs ≡ true → list_all f xs ≡ true → list_all (λ x. p x && f x) xs ≡ true
  all_both [] e h = refl
  all_both (x ∷ xs) e h =
      both (p x && f x) (list_all (λ y. p y && f y) xs) (both (p x) (f x) (and_first (p x) (list_all p xs) e) (and_first (f x) (list_all f xs) h)) (all_both xs (and_second (p x) (list_all p xs) e) (and_second (f x) (list_all f xs) h))

  none_left : (b : Bool) (x : A) (xs : List A) → f x ≡ b → cond b (x ∷ xs) xs ≡ [] → (not (f x) ≡ true) × (xs ≡ [])
  none_left true x xs e h = absurd (cc)
  none_left false x xs e h = (ap not e, h)

  all_not : (xs : List A) → filter f xs ≡ [] → list_all (λ x. not (f x)) xs ≡ true
  all_not [] e = refl
  all_not (x ∷ xs) e = let parts = none_left (f x) x (filter f xs) refl e in both (not (f x)) (list_all (λ y. not (f y)) xs) parts.0 (all_not xs parts.1)

pub all_index : {A : Type 0} (p : A → Bool) (xs : List A) (i : ℕ) (d : A) → list_all p xs ≡ true → i < length xs → p (get_or xs i d) ≡ true
all_index p [] i d e l = absurd (omega arith)
all_index p (x ∷ xs) zero d e l = and_first (p x) (list_all p xs) e
all_index p (x ∷ xs) (suc i) d e l = all_index p xs i d (and_second (p x) (list_all p xs) e) (omega arith)

-- ---- what depends on a name alone

module _ (decls : List DeclText) where
  abbrev nested_by : ℕ → List ℕ → List ℕ → List Mention
  nested_by n owner text = flat_map (λ decl. filter (λ used. eqb (number_of_kind used.kind) n) (uses_in decl)) (filter (λ decl. list_any (λ x. (eqb n (number_of_kind x.kind) && bytes_eq owner x.owner) && bytes_eq text x.text) (names_in decl)) decls)

  pub nested_same : (g h : Mention) → Same g h → nested_in decls g ≡ nested_in decls h
  nested_same g h s =
      ap (λ n. nested_by n g.owner g.text) s.kind ∙ ap (λ o. nested_by (number_of_kind h.kind) o g.text) s.owner ∙ ap (λ t. nested_by (number_of_kind h.kind) h.owner t) s.text

  abbrev test_by : Mention → ℕ → List ℕ → List ℕ → Bool
  test_by x n owner text = (eqb (number_of_kind x.kind) n && bytes_eq x.owner owner) && bytes_eq x.text text

  test_same : (x g h : Mention) → Same g h → same_name x g ≡ same_name x h
  test_same x g h s =
      ap (λ n. test_by x n g.owner g.text) s.kind ∙ ap (λ o. test_by x (number_of_kind h.kind) o g.text) s.owner ∙ ap (λ t. test_by x (number_of_kind h.kind) h.owner t) s.text

  pub reach_same : (m : ℕ) (x g h : Mention) → Same g h → reaches decls m x g ≡ reaches decls m x h
  reach_same zero x g h s = refl
  reach_same (suc m) x g h s = λ i. list_any (λ k. test_same k g h s i || reach_same m k g h s i) (nested_in decls x)

-- ---- names as nodes

module _ (decls : List DeclText) (n : Nesting) (apart : Apart (declared_names decls)) (unknown : name_unknown decls ≡ None) where
  abbrev names : List Mention
  names = declared_names decls

  abbrev groups : List Mention
  groups = of_kind names (kind_of n)

  abbrev rows : List (List ℕ)
  rows = nodes_of decls n

  abbrev known : Mention → Bool
  known used = list_any (names_it used) names

  abbrev own_kind : Mention → Bool
  own_kind used = same_kind used.kind (kind_of n)

  nothing_shown : (xs : List Mention) → shown_at xs 0 ≡ None → xs ≡ []
  nothing_shown [] e = refl
  nothing_shown (x ∷ xs) e = absurd (cc)

  double_not : (b : Bool) → not (not b) ≡ true → b ≡ true
  double_not true e = refl
  double_not false e = e

  all_known : list_all known (used_names decls) ≡ true
  all_known =
      all_then (λ used. not (is_unknown names used)) known (λ used e. double_not (known used) e) (used_names decls)
      (all_not known (is_unknown names) (used_names decls) (nothing_shown (filter (is_unknown names) (used_names decls)) unknown))

  nested_known : (g : Mention) → list_all known (nested_in decls g) ≡ true
  nested_known g =
      all_flat known (λ decl. filter (λ used. same_kind used.kind g.kind) (uses_in decl)) (filter (λ decl. list_any (same_name g) (names_in decl)) decls)
      ∙ all_filter_still (λ decl. list_all known (filter (λ used. same_kind used.kind g.kind) (uses_in decl))) (λ decl. list_any (same_name g) (names_in decl)) decls
      (all_then (λ decl. list_all known (uses_in decl)) (λ decl. list_all known (filter (λ used. same_kind used.kind g.kind) (uses_in decl)))
      (λ decl e. all_filter_still known (λ used. same_kind used.kind g.kind) (uses_in decl) e) decls (sym (all_flat known uses_in decls) ∙ all_known))

  all_true : {A : Type 0} (p : A → Bool) → ((x : A) → p x ≡ true) → (xs : List A) → list_all p xs ≡ true
  all_true p h [] = refl
  all_true p h (x ∷ xs) = both (p x) (list_all p xs) (h x) (all_true p h xs)

  nested_kind : (g : Mention) → list_all (λ used. same_kind used.kind g.kind) (nested_in decls g) ≡ true
  nested_kind g =
      all_flat (λ used. same_kind used.kind g.kind) (λ decl. filter (λ used. same_kind used.kind g.kind) (uses_in decl)) (filter (λ decl. list_any (same_name g) (names_in decl)) decls)
      ∙ all_true (λ decl. list_all (λ used. same_kind used.kind g.kind) (filter (λ used. same_kind used.kind g.kind) (uses_in decl)))
      (λ decl. all_filter known (λ used. same_kind used.kind g.kind) (uses_in decl)) (filter (λ decl. list_any (same_name g) (names_in decl)) decls)

  not_tag : is_tag (kind_of n) ≡ false
  not_tag = by_kind n
    where
      by_kind : (m : Nesting) → is_tag (kind_of m) ≡ false
      by_kind Objects = refl
      by_kind Protocols = refl

  swap : (a b : ℕ) → eqb a b ≡ true → eqb b a ≡ true
  swap a b e = grind (arith, nat_tests)

  no_tag : (used : Mention) → own_kind used ≡ true → is_tag used.kind ≡ false
  no_tag used e = ap (λ k. eqb k 2) (same_number (number_of_kind used.kind) (number_of_kind (kind_of n)) e) ∙ not_tag

  names_same : (used x : Mention) → own_kind used ≡ true → names_it used x ≡ true → Same used x
  names_same used x own e =
      let front = and_first (same_kind used.kind x.kind && bytes_eq used.text x.text) (is_tag used.kind || bytes_eq used.owner x.owner) e in
      let last = and_second (same_kind used.kind x.kind && bytes_eq used.text x.text) (is_tag used.kind || bytes_eq used.owner x.owner) e in
      record {
        kind = same_number (number_of_kind used.kind) (number_of_kind x.kind) (and_first (same_kind used.kind x.kind) (bytes_eq used.text x.text) front);
        owner = (bytes_eq-Decides used.owner x.owner).0 (ap (λ b. b || bytes_eq used.owner x.owner) (sym (no_tag used own)) ∙ last);
        text = (bytes_eq-Decides used.text x.text).0 (and_second (same_kind used.kind x.kind) (bytes_eq used.text x.text) front);
      }

  own_named : (used : Mention) → own_kind used ≡ true → (x : Mention) → names_it used x ≡ true → own_kind x ≡ true
  own_named used own x e = ap (λ k. eqb k (number_of_kind (kind_of n))) (sym (names_same used x own e).kind) ∙ own

  -- the place of a name that is declared
  pub place : {P : Type 0} (used d : Mention) → known used ≡ true → own_kind used ≡ true
      → ((i : ℕ) → position (names_it used) groups ≡ Some i → number_among groups used ≡ i → i < length groups → Same used (get_or groups i d) → P) → P
  place {P = P} used d e own h = by_position (position (names_it used) groups) refl
    where
      there : is_some (position (names_it used) groups) ≡ true
      there = has_position (names_it used) groups ∙ any-filter_same (names_it used) own_kind true (own_named used own) names ∙ e

      by_position : (o : Option ℕ) → position (names_it used) groups ≡ o → P
      by_position None g = absurd (false≢true (sym (ap is_some g) ∙ there))
      by_position (Some i) g =
          let facts = position-Some (names_it used) groups i d g in
          h i g (ap or_zero g) facts.0 (names_same used (get_or groups i d) own facts.1)

  groups_own : list_all own_kind groups ≡ true
  groups_own = all_filter known own_kind names

  nested_own : (g : Mention) (i : ℕ) (d : Mention) → i < length groups → Same g (get_or groups i d) → list_all (λ used. known used && own_kind used) (nested_in decls g) ≡ true
  nested_own g i d l s =
      let at = same_number (number_of_kind (get_or groups i d).kind) (number_of_kind (kind_of n)) (all_index own_kind groups i d groups_own l) in
      all_both known own_kind (nested_in decls g) (nested_known g) (subst (λ k. list_all (λ used. eqb (number_of_kind used.kind) k) (nested_in decls g) ≡ true) (s.kind ∙ at) (nested_kind g))

  row_is : (g : Mention) (i : ℕ) (d : Mention) → i < length groups → Same g (get_or groups i d) → row_at rows i ≡ map (number_among groups) (nested_in decls g)
  row_is g i d l s = get_or-map (λ x. map (number_among groups) (nested_in decls x)) groups i d [] l ∙ ap (map (number_among groups)) (sym (nested_same decls g (get_or groups i d) s))

  same_place : (used d : Mention) (i j : ℕ) → i < length groups → j < length groups → Same used (get_or groups i d) → same_name used (get_or groups j d) ≡ eqb i j
  same_place used d i j l m s = by_test (same_name used (get_or groups j d)) (eqb i j) refl refl
    where
      by_test : (a b : Bool) → same_name used (get_or groups j d) ≡ a → eqb i j ≡ b → a ≡ b
      by_test true true e h = refl
      by_test false false e h = refl
      by_test true false e h =
          let at = apart_at groups i j d (apart_filter own_kind names apart) l m (of_same (get_or groups i d) (get_or groups j d) (same_on (get_or groups i d) used (get_or groups j d) (same_back used (get_or groups i d) s) (same_of used (get_or groups j d) e))) in
          sym (ap (eqb i) (sym at) ∙ own_number i) ∙ h
      by_test false true e h =
          sym e ∙ of_same used (get_or groups j d) (subst (λ k. Same used (get_or groups k d)) (same_number i j h) s)

  pub reach_is : (m : ℕ) (g d : Mention) (i j : ℕ) → i < length groups → j < length groups → Same g (get_or groups i d) → reaches decls m g (get_or groups j d) ≡ leads rows m i j
  reach_is zero g d i j l k s = refl
  reach_is (suc m) g d i j l k s =
      any_same (λ used. same_name used (get_or groups j d) || reaches decls m used (get_or groups j d)) (λ used. eqb (number_among groups used) j || leads rows m (number_among groups used) j) (λ used. known used && own_kind used)
      (λ used e. place used d (and_first (known used) (own_kind used) e) (and_second (known used) (own_kind used) e) (λ p at number within same.
      ap (λ b. b || reaches decls m used (get_or groups j d)) (same_place used d p j within k same) ∙ ap (λ b. eqb p j || b) (reach_is m used d p j within k same) ∙ ap (λ q. eqb q j || leads rows m q j) (sym number)))
      (nested_in decls g) (nested_own g i d l s)
      ∙ list_any_map (λ x. eqb x j || leads rows m x j) (number_among groups) (nested_in decls g) ∙ ap (list_any (λ x. eqb x j || leads rows m x j)) (sym (row_is g i d l s))

  pub nest_is : (m : ℕ) (g d : Mention) (i : ℕ) → i < length groups → Same g (get_or groups i d) → nests decls m g ≡ chains rows m i
  nest_is zero g d i l s = refl
  nest_is (suc zero) g d i l s = refl
  nest_is (suc (suc m)) g d i l s =
      any_same (nests decls (suc m)) (λ used. chains rows (suc m) (number_among groups used)) (λ used. known used && own_kind used)
      (λ used e. place used d (and_first (known used) (own_kind used) e) (and_second (known used) (own_kind used) e) (λ p at number within same. nest_is (suc m) used d p within same ∙ ap (chains rows (suc m)) (sym number)))
      (nested_in decls g) (nested_own g i d l s)
      ∙ list_any_map (chains rows (suc m)) (number_among groups) (nested_in decls g) ∙ ap (list_any (chains rows (suc m))) (sym (row_is g i d l s))

  pub rows_long : length rows ≡ length groups
  rows_long = length-map groups (λ x. map (number_among groups) (nested_in decls x))

  row_below : (g : Mention) → own_kind g ≡ true → are_below (length groups) (map (number_among groups) (nested_in decls g)) ≡ true
  row_below g own =
      let kinds = subst (λ k. list_all (λ used. eqb (number_of_kind used.kind) k) (nested_in decls g) ≡ true) (same_number (number_of_kind g.kind) (number_of_kind (kind_of n)) own) (nested_kind g) in
      all_map (λ k. nat_lt k (length groups)) (number_among groups) (nested_in decls g)
      ∙ all_then (λ used. known used && own_kind used) (λ used. nat_lt (number_among groups used) (length groups))
      (λ used e. place used used (and_first (known used) (own_kind used) e) (and_second (known used) (own_kind used) e) (λ p at number within same. ap (λ q. nat_lt q (length groups)) number ∙ is_below p (length groups) within))
      (nested_in decls g) (all_both known own_kind (nested_in decls g) (nested_known g) kinds)
    where
      is_below : (a b : ℕ) → a < b → nat_lt a b ≡ true
      is_below a b l = grind (arith, nat_tests)

  all_below : list_all (are_below (length rows)) rows ≡ true
  all_below =
      ap (λ k. list_all (are_below k) rows) rows_long ∙ all_map (are_below (length groups)) (λ x. map (number_among groups) (nested_in decls x)) groups
      ∙ all_then own_kind (λ g. are_below (length groups) (map (number_among groups) (nested_in decls g))) row_below groups groups_own

  pub are_nodes : AreNodes rows
  are_nodes a = by_room (nat_lt a (length rows)) refl
    where
      by_room : (b : Bool) → nat_lt a (length rows) ≡ b → are_below (length rows) (row_at rows a) ≡ true
      by_room true e = all_index (are_below (length rows)) rows a [] all_below (below a (length rows) e)
      by_room false e = let past : length rows ≤ a = grind (arith, nat_tests) in ap (are_below (length rows)) (get_or_past rows a [] past)

  -- a group is on a circle where its node leads to itself
  pub circle_is : (m : ℕ) (g d : Mention) (i : ℕ) → i < length groups → Same g (get_or groups i d) → reaches decls m g g ≡ leads rows m i i
  circle_is m g d i l s = reach_same decls m g g (get_or groups i d) s ∙ reach_is m g d i i l l s
