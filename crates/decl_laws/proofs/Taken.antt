-- What is true of each declaration where there is no fault: its names are declared, it has no bad shape, and no name is declared twice.
use Rattle.std.proofs.Common.{◌≡◌, refl, sym, ap, ◌∙◌, ℕ, zero, suc, ◌<◌, Bool, true, false, List, [], ◌∷◌, length, take, arith, Option, Some, None, is_some}
use Rattle.std.specs.Prelude.{filter, slice_get, option_map, option_and_then}
use Rattle.std.specs.List.{list_any}
use Rattle.std.proofs.lemmas.Bool.{false≢true, or_parts, not-false}
use Rattle.std.proofs.lemmas.Option.{none-some, slice_get_within}
use Rattle.spoc_base.specs.declared.place.Named.{Named}
use Rattle.spoc_ast.specs.Written.{DeclText, NetworkDecl, RouterDecl, GroupDecl, AreaDecl, AggregateDecl, ProtocolDecl, ProtocolGroupDecl, RestrictionDecl, ServiceDecl}
use Rattle.policy_decls.specs.Names.{Mention, names_in, declared_names, first_below, same_name, is_again, shown_at}
use Rattle.policy_decls.specs.Uses.{uses_in, used_names, names_it, is_unknown}
use Rattle.policy_decls.specs.Lookup.{IfaceText, declared_ifaces}
use Rattle.policy_decls.specs.Shapes.{shape_in, shape_at, first_true}
use Rattle.policy_decls.specs.Faults.{name_twice, name_unknown, name_of_decl, first_shape}
use Rattle.policy_decls.specs.Formed.{is_formed, are_formed}
use Rattle.policy_model.proofs.AllWalks.{IsIn, in_flat_map}
use Rattle.list_laws.proofs.Members.{each_in}
use Rattle.decl_laws.proofs.Rows.{HasNoFault}
use Rattle.decl_laws.proofs.Places.{place_get, none_below, first_is, none_kept, AreApart}

-- the interfaces that stand before a declaration
pub record IsFaultless (decls : List DeclText) (d : DeclText) : Type 0 where
  pub known : (used : Mention) → IsIn used (uses_in d) → list_any (names_it used) (declared_names decls) ≡ true
  pub earlier : List IfaceText
  pub shape : shape_in decls earlier d ≡ None
  pub formed : is_formed d ≡ true

-- ---- shapes

first_name : (d : DeclText) → (name : Named) × (shown_at (names_in d) 0 ≡ Some name)
first_name (NetworkDecl name desc parts) = (_, refl)
first_name (RouterDecl name desc parts) = (_, refl)
first_name (GroupDecl name desc objects) = (_, refl)
first_name (AreaDecl name desc parts) = (_, refl)
first_name (AggregateDecl name desc parts) = (_, refl)
first_name (ProtocolDecl name protocol notes) = (_, refl)
first_name (ProtocolGroupDecl name prts) = (_, refl)
first_name (RestrictionDecl name desc ports) = (_, refl)
first_name (ServiceDecl name desc idle user rules) = (_, refl)

module _ (decls : List DeclText) where
  -- the number n at the k-th declaration, with its name
  abbrev named_row : ℕ → ℕ → Option (ℕ × Named)
  named_row k n = option_map (λ name. (n, name)) (name_of_decl decls k)

  named_shape : (k : ℕ) (d : DeclText) (o : Option ℕ) → slice_get decls k ≡ Some d → is_some o ≡ true →
      option_and_then (named_row k) o ≡ None → ⊥
  named_shape k d None e some none = false≢true some
  named_shape k d (Some n) e some none =
      let w = first_name d in
      let same : name_of_decl decls k ≡ Some w.0 = ap (option_and_then (λ decl. shown_at (names_in decl) 0)) e ∙ w.1 in
      none-some {A = ℕ × Named} (n, w.0) (sym none ∙ ap (option_map {T = Named} {U = ℕ × Named} (λ name. (n, name))) same)

  there : (k : ℕ) (xs : List DeclText) → k < length xs → (d : DeclText) × (slice_get xs k ≡ Some d)
  there k [] below = absurd (omega arith)
  there zero (x ∷ xs) below = (x, refl)
  there (suc k) (x ∷ xs) below = there k xs (omega arith)

  no_first_shape : (o : Option ℕ) → first_below (λ k. is_some (shape_at decls k)) (length decls) ≡ o →
      option_and_then (λ k. option_and_then (named_row k) (shape_at decls k)) o ≡ None → o ≡ None
  no_first_shape None e none = refl
  no_first_shape (Some k) e none =
      let w = first_is (λ k. is_some (shape_at decls k)) (length decls) k e in
      let d = there k decls w.0 in
      absurd (named_shape k d.0 (shape_at decls k) d.1 w.1 none)

  no_some : {A : Type 0} (o : Option A) → is_some o ≡ false → o ≡ None
  no_some None e = refl
  no_some (Some x) e = absurd (false≢true (sym e))

  pub no_shape : first_shape decls ≡ None → (k : ℕ) (d : DeclText) → k < length decls → slice_get decls k ≡ Some d → shape_in decls (declared_ifaces (take k decls)) d ≡ None
  no_shape none k d below e =
      let first = first_below (λ k. is_some (shape_at decls k)) (length decls) in
      let clear = none_below (λ k. is_some (shape_at decls k)) (length decls) (no_first_shape first refl none) k below in
      ap (option_and_then (shape_in decls (declared_ifaces (take k decls)))) (sym e) ∙ no_some (shape_at decls k) clear

-- what holds of none of the rows
pub row_clear : (n : ℕ) (b : Bool) (rows : List (ℕ × Bool)) → first_true ((n, b) ∷ rows) ≡ None → (b ≡ false) × (first_true rows ≡ None)
row_clear n true rows e = absurd (none-some n (sym e))
row_clear n false rows e = (refl, e)

-- ---- names

pub known_names : (decls : List DeclText) → name_unknown decls ≡ None → (used : Mention) → IsIn used (used_names decls) → list_any (names_it used) (declared_names decls) ≡ true
known_names decls none used h =
    not-false (list_any (names_it used) (declared_names decls)) (none_kept (is_unknown (declared_names decls)) (used_names decls) (no_shown (filter (is_unknown (declared_names decls)) (used_names decls)) none) used h)
  where
    no_shown : (names : List Mention) → shown_at names 0 ≡ None → slice_get names 0 ≡ None
    no_shown [] e = refl
    no_shown (x ∷ xs) e = absurd (none-some x.shown (sym e))

no_again : (names : List Mention) (o : Option ℕ) → first_below (is_again names) (length names) ≡ o → option_and_then (shown_at names) o ≡ None → o ≡ None
no_again names None e none = refl
no_again names (Some k) e none =
    let w = first_is (is_again names) (length names) k e in
    let x = at names k w.0 in
    absurd (none-some x.0.shown (sym none ∙ ap (option_map (λ name. name.shown)) x.1))
  where
    at : (names : List Mention) (k : ℕ) → k < length names → (x : Mention) × (slice_get names k ≡ Some x)
    at [] k below = absurd (omega arith)
    at (x ∷ xs) zero below = (x, refl)
    at (x ∷ xs) (suc k) below = at xs k (omega arith)

-- a list in which no item is the same as one before it
apart_from_fronts : (names : List Mention) → ((k : ℕ) (x : Mention) → slice_get names k ≡ Some x → list_any (same_name x) (take k names) ≡ false) → AreApart same_name names
apart_from_fronts [] h = tt
apart_from_fronts (x ∷ xs) h = (
  (λ y g. let w = place_get y xs g in (or_parts (same_name y x) (list_any (same_name y) (take w.0 xs)) (h (suc w.0) y w.2)).0),
  apart_from_fronts xs (λ k y e. (or_parts (same_name y x) (list_any (same_name y) (take k xs)) (h (suc k) y e)).1),
)

pub apart_names : (decls : List DeclText) → name_twice decls ≡ None → AreApart same_name (declared_names decls)
apart_names decls none =
    let names = declared_names decls in
    let clear = none_below (is_again names) (length names) (no_again names (first_below (is_again names) (length names)) refl none) in
    apart_from_fronts names (λ k x e. sym (again names k x e) ∙ clear k (slice_get_within names k x e))
  where
    again : (names : List Mention) (k : ℕ) (x : Mention) → slice_get names k ≡ Some x → is_again names k ≡ list_any (same_name x) (take k names)
    again names k x e = rw e refl

-- ---- together

pub each_faultless : (decls : List DeclText) → are_formed decls ≡ true → HasNoFault decls → (d : DeclText) → IsIn d decls → IsFaultless decls d
each_faultless decls formed h d g =
    let w = place_get d decls g in
    record {
      known = λ used k. known_names decls h.unknown used (in_flat_map uses_in d used decls g k);
      earlier = declared_ifaces (take w.0 decls);
      shape = no_shape decls h.shape w.0 d w.1 w.2;
      formed = each_in is_formed decls formed d g;
    }
