-- What each row of the table of faults says where it is absent: names are declared once, names that are used are declared, and each declaration has its shape.
use Rattle.std.proofs.Common.{◌≡◌, ℕ, ◌<◌, inl, Bool, true, false, not, List, [], ◌∷◌, ◌++◌, length, take, refl, sym, ap, subst, ◌∙◌, arith}
use Rattle.std.specs.Prelude.{Option, Some, None, is_some, filter, option_map, option_and_then}
use Rattle.std.specs.List.{list_any, slice_get}
use Rattle.std.proofs.lemmas.Option.{none-some, slice_get-get_or, get_or_from_slice_get}
use Rattle.std.proofs.lemmas.Bool.{false≢true, true≢false, false_from_ne_true, not-false}
use Rattle.spoc_base.specs.declared.place.Named.{Named}
use Rattle.policy_model.specs.Lists.{numbers_below}
use Rattle.policy_model.proofs.AllWalks.{IsIn, in_filter, in_numbers}
use Rattle.list_laws.proofs.Members.{from_filter}
use Rattle.list_laws.proofs.Tables.{from_range}
use Rattle.spoc_ast.specs.Written.{DeclText, NetworkDecl, RouterDecl, GroupDecl, AreaDecl, AggregateDecl, ProtocolDecl, ProtocolGroupDecl, RestrictionDecl, ServiceDecl}
use Rattle.policy_decls.specs.Names.{Mention, names_in, declared_names, same_name, first_below, is_again, shown_at}
use Rattle.policy_decls.specs.Uses.{used_names, names_it, is_unknown}
use Rattle.policy_decls.specs.Lookup.{declared_ifaces}
use Rattle.policy_decls.specs.Shapes.{shape_in, shape_at}
use Rattle.policy_decls.specs.Faults.{name_twice, name_unknown, name_of_decl, first_shape}
use Rattle.decl_laws.proofs.Cuts.{get_at_cut, take_at_cut, within_cut}

-- ---- the least number that passes

nothing_in : {X : Type 0} (x : X) (xs : List X) → slice_get xs 0 ≡ None → IsIn x xs → ⊥
nothing_in x [] e h = h
nothing_in x (y ∷ ys) e h = none-some y (sym e)

first_in : {X : Type 0} (x d : X) (xs : List X) → slice_get xs 0 ≡ Some x → IsIn x xs
first_in x d [] e = absurd (none-some x e)
first_in x d (y ∷ ys) e = inl (sym (get_or_from_slice_get (y ∷ ys) 0 x d e))

pub none_below : (test : ℕ → Bool) (count k : ℕ) → first_below test count ≡ None → k < count → test k ≡ false
none_below test count k e h = false_from_ne_true (test k) (λ t. nothing_in k (filter test (numbers_below count)) e (in_filter test k (numbers_below count) (in_numbers count k h) t))

some_below : (test : ℕ → Bool) (count k : ℕ) → first_below test count ≡ Some k → (k < count) × (test k ≡ true)
some_below test count k e =
    let w = from_filter test k (numbers_below count) (first_in k 0 (filter test (numbers_below count)) e) in
    let below = from_range 0 count k w.0 in
    (omega (arith, below), w.1)

none_first : {A B : Type 0} (f : A → Option B) (o : Option A) → ((x : A) → o ≡ Some x → f x ≡ None → ⊥) → option_and_then f o ≡ None → o ≡ None
none_first f None never e = refl
none_first f (Some x) never e = absurd (never x refl e)

not_none : {A B : Type 0} (f : A → B) (o : Option A) (x : A) → o ≡ Some x → option_map f o ≡ None → ⊥
not_none f o x s e = none-some (f x) (sym e ∙ ap (option_map f) s)

-- ---- names stand once

again_at : (names : List Mention) (k : ℕ) (m : Mention) → slice_get names k ≡ Some m → is_again names k ≡ list_any (same_name m) (take k names)
again_at names k m e = rw e refl

pub stands_once : (decls : List DeclText) → name_twice decls ≡ None → (before : List Mention) (m : Mention) (after : List Mention) →
    declared_names decls ≡ before ++ m ∷ after → list_any (same_name m) before ≡ false
stands_once decls none before m after e =
    let names = declared_names decls in
    let k = length before in
    let shown : (j : ℕ) → first_below (is_again names) (length names) ≡ Some j → shown_at names j ≡ None → ⊥ =
    λ j s. let w = some_below (is_again names) (length names) j s in
    let there = slice_get-get_or names j m w.0 in
    not_none (λ (n : Mention). n.shown) (slice_get names j) _ there in
    let first = none_first (shown_at names) (first_below (is_again names) (length names)) shown none in
    let below : k < length names = subst (λ l. k < length l) (sym e) (within_cut m before after) in
    let at : slice_get names k ≡ Some m = ap (λ l. slice_get l k) e ∙ get_at_cut m before after in
    ap (list_any (same_name m)) (sym (ap (take k) e ∙ take_at_cut m before after)) ∙ sym (again_at names k m at) ∙ none_below (is_again names) (length names) k first below

-- ---- names that are used are declared

pub is_known : (decls : List DeclText) → name_unknown decls ≡ None → (used : Mention) → IsIn used (used_names decls) → list_any (names_it used) (declared_names decls) ≡ true
is_known decls none used h =
    let names = declared_names decls in
    let unknown = filter (is_unknown names) (used_names decls) in
    let test = list_any (names_it used) names in
    not-false test (false_from_ne_true (not test) (λ t. let w = in_filter (is_unknown names) used (used_names decls) h t in
    nothing_in used unknown (empty unknown none) w))
  where
    empty : (ms : List Mention) → shown_at ms 0 ≡ None → slice_get ms 0 ≡ None
    empty [] e = refl
    empty (m ∷ ms) e = absurd (none-some m.shown (sym e))

-- ---- each declaration has its shape

is_named : (d : DeclText) → shown_at (names_in d) 0 ≡ None → ⊥
is_named (NetworkDecl name desc parts) e = none-some _ (sym e)
is_named (RouterDecl name desc parts) e = none-some _ (sym e)
is_named (GroupDecl name desc objects) e = none-some _ (sym e)
is_named (AreaDecl name desc parts) e = none-some _ (sym e)
is_named (AggregateDecl name desc parts) e = none-some _ (sym e)
is_named (ProtocolDecl name protocol notes) e = none-some _ (sym e)
is_named (ProtocolGroupDecl name prts) e = none-some _ (sym e)
is_named (RestrictionDecl name desc ports) e = none-some _ (sym e)
is_named (ServiceDecl name desc idle user rules) e = none-some _ (sym e)

none_of : {A : Type 0} (o : Option A) → is_some o ≡ false → o ≡ None
none_of None e = refl
none_of (Some x) e = absurd (true≢false e)

abbrev row_of : Option ℕ → Option Named → Option (ℕ × Named)
row_of shape name = option_and_then {U = ℕ × Named} (λ n. option_map {U = ℕ × Named} (λ x. (n, x)) name) shape

no_name : (shape : Option ℕ) (name : Option Named) → is_some shape ≡ true → row_of shape name ≡ None → name ≡ None
no_name None name s e = absurd (false≢true s)
no_name (Some n) None s e = refl
no_name (Some n) (Some x) s e = absurd (true≢false (ap is_some e))

no_shape_at : (decls : List DeclText) → first_shape decls ≡ None → (d : DeclText) (k : ℕ) → k < length decls → shape_at decls k ≡ None
no_shape_at decls none d k below =
    let test : ℕ → Bool = λ j. is_some (shape_at decls j) in
    let row : ℕ → Option (ℕ × Named) = λ j. row_of (shape_at decls j) (name_of_decl decls j) in
    let has_row : (j : ℕ) → first_below test (length decls) ≡ Some j → row j ≡ None → ⊥ =
    λ j s e. let w = some_below test (length decls) j s in
    let there = slice_get-get_or decls j d w.0 in
    let name = no_name (shape_at decls j) (name_of_decl decls j) w.1 e in
    is_named _ (sym (ap (option_and_then (λ decl. shown_at (names_in decl) 0)) there) ∙ name) in
    none_of (shape_at decls k) (none_below test (length decls) k (none_first row (first_below test (length decls)) has_row none) below)

pub has_shape : (decls : List DeclText) → first_shape decls ≡ None → (before : List DeclText) (d : DeclText) (after : List DeclText) →
    decls ≡ before ++ d ∷ after → shape_in decls (declared_ifaces before) d ≡ None
has_shape decls none before d after e =
    let k = length before in
    let below : k < length decls = subst (λ l. k < length l) (sym e) (within_cut d before after) in
    let at : slice_get decls k ≡ Some d = ap (λ l. slice_get l k) e ∙ get_at_cut d before after in
    let front : take k decls ≡ before = ap (take k) e ∙ take_at_cut d before after in
    sym (ap (λ l. shape_in decls (declared_ifaces l) d) front) ∙ sym (ap (option_and_then (shape_in decls (declared_ifaces (take k decls)))) at) ∙ no_shape_at decls none d k below
