-- Items by their numbers; things with one number have one name.
use Rattle.std.proofs.Common.{◌≡◌, ℕ, zero, suc, ◌<◌, inl, inr, Bool, true, false, not, ◌&&◌, List, [], ◌∷◌, ◌++◌, length, map, get_or, refl, sym, ap, ◌∙◌, ⊎_elim, eqb, arith}
use Rattle.std.specs.Prelude.{Some, None, position}
use Rattle.std.specs.Str.{bytes_eq}
use Rattle.std.specs.List.{list_any, slice_get}
use Rattle.std.proofs.lemmas.Option.{none-some, same_Some}
use Rattle.std.proofs.lemmas.Bool.{false≢true, or_parts, or_from, and_parts, and_from, cases_Bool, not_from_false, ne_eqb, eqb-true, eq-eqb}
use Rattle.policy_model.specs.Lists.{has, are_distinct, once_each}
use Rattle.policy_model.proofs.AllWalks.{IsIn, in_filter, in_front, in_back, from_map}
use Rattle.list_laws.proofs.Members.{some_in, some_of, from_filter}
use Rattle.spoc_ast.specs.Written.{Lexeme, DeclText}
use Rattle.policy_decls.specs.Names.{NameKind, TagName, same_kind, Mention, mention, declared_names}
use Rattle.policy_decls.specs.Uses.{used_names, names_it}
use Rattle.policy_decls.specs.Shapes.{same_texts, clash_with}
use Rattle.policy_decls.specs.Said.{same_text, names_of, tag_names, or_zero, number_of_name, number_of_tag}
use Rattle.policy_decls.specs.Faults.{name_unknown}
use Rattle.decl_laws.proofs.Cuts.{place, place_passes, number_is_place}
use Rattle.decl_laws.proofs.Found.{same_from, same_to, is_of}
use Rattle.decl_laws.proofs.Owners.{known_number}
use Rattle.decl_laws.proofs.Shaped.{none_in}

-- ---- items by number

pub item_at : {X : Type 0} (xs : List X) (i : ℕ) → i < length xs → (x : X) × (slice_get xs i ≡ Some x)
item_at [] i h = absurd (omega arith)
item_at (x ∷ xs) zero h = (x, refl)
item_at (x ∷ xs) (suc i) h = item_at xs i (omega arith)

pub item_in : {X : Type 0} (xs : List X) (i : ℕ) (x : X) → slice_get xs i ≡ Some x → IsIn x xs
item_in [] i x e = absurd (none-some x e)
item_in (y ∷ ys) zero x e = inl (sym (same_Some y x e))
item_in (y ∷ ys) (suc i) x e = inr (item_in ys i x e)

pub mapped_item : {X Y : Type 0} (f : X → Y) (d : Y) (xs : List X) (i : ℕ) (x : X) → slice_get xs i ≡ Some x → get_or (map f xs) i d ≡ f x
mapped_item f d [] i x e = absurd (none-some x e)
mapped_item f d (y ∷ ys) zero x e = ap f (same_Some y x e)
mapped_item f d (y ∷ ys) (suc i) x e = mapped_item f d ys i x e

-- a list cut at the j-th item, with each earlier item before the cut
pub record CutAtNumber {X : Type 0} (xs : List X) (j : ℕ) (y : X) : Type 0 where
  pub before : List X
  pub after : List X
  pub is : xs ≡ before ++ y ∷ after
  pub earlier : (i : ℕ) (x : X) → i < j → slice_get xs i ≡ Some x → IsIn x before

pub cut_at_number : {X : Type 0} (xs : List X) (j : ℕ) (y : X) → slice_get xs j ≡ Some y → CutAtNumber xs j y
cut_at_number [] j y e = absurd (none-some y e)
cut_at_number (z ∷ zs) zero y e = record { before = []; after = zs; is = ap (λ w. w ∷ zs) (same_Some z y e); earlier = λ i x lt g. absurd (omega arith) }
cut_at_number (z ∷ zs) (suc j) y e =
    let w = cut_at_number zs j y e in
    record { before = z ∷ w.before; after = w.after; is = ap (λ l. z ∷ l) w.is; earlier = one_more z zs w.before j w.earlier }
  where
    one_more : {X : Type 0} (z : X) (zs before : List X) (j : ℕ) → ((i : ℕ) (x : X) → i < j → slice_get zs i ≡ Some x → IsIn x before) →
        (i : ℕ) (x : X) → i < suc j → slice_get (z ∷ zs) i ≡ Some x → IsIn x (z ∷ before)
    one_more z zs before j later zero x lt g = inl (sym (same_Some z x g))
    one_more z zs before j later (suc i) x lt g = inr (later i x (omega arith) g)

-- ---- one number, one name

-- two tests whose first item is the same both pass at one item
pub one_item : {X : Type 0} (test other : X → Bool) (xs : List X) (d : X) → list_any test xs ≡ true → list_any other xs ≡ true →
    or_zero (position test xs) ≡ or_zero (position other xs) → (x : X) × (test x ≡ true) × (other x ≡ true)
one_item test other xs d h g e =
    let v = place_passes test xs d h in
    let w = place_passes other xs d g in
    let places = sym (number_is_place test xs d h) ∙ e ∙ number_is_place other xs d g in
    (get_or xs (place other xs) d, sym (ap (λ n. test (get_or xs n d)) places) ∙ v.1, w.1)

pub its_text : (used m : Mention) → names_it used m ≡ true → used.text ≡ m.text
its_text used m h = same_from used.text m.text (and_parts (same_kind used.kind m.kind) (bytes_eq used.text m.text) (and_parts (same_kind used.kind m.kind && bytes_eq used.text m.text) _ h).0).1

pub one_name : (decls : List DeclText) (k : NameKind) (v w : Lexeme) → list_any (names_it (mention k v)) (names_of decls k) ≡ true → list_any (names_it (mention k w)) (names_of decls k) ≡ true →
    number_of_name decls k v ≡ number_of_name decls k w → v.text ≡ w.text
one_name decls k v w h g e =
    let x = one_item (names_it (mention k v)) (names_it (mention k w)) (names_of decls k) (mention k v) h g e in
    its_text (mention k v) x.0 x.1 ∙ sym (its_text (mention k w) x.0 x.2)

-- ---- tags

record OnceKept (m : Mention) (xs : List Mention) : Type 0 where
  kept : Mention
  once : IsIn kept (once_each same_text xs)
  there : IsIn kept xs
  same : kept.text ≡ m.text

once_kept : (m : Mention) (xs : List Mention) → IsIn m xs → OnceKept m xs
once_kept m [] h = absurd h
once_kept m (x ∷ xs) (inl e) = record { kept = x; once = inl refl; there = inl refl; same = ap (λ (n : Mention). n.text) (sym e) }
once_kept m (x ∷ xs) (inr h) =
    let w = once_kept m xs h in
    ⊎_elim
    (λ t. record { kept = x; once = inl refl; there = inl refl; same = same_from x.text w.kept.text t ∙ w.same })
    (λ f. record {
      kept = w.kept;
      once = inr (in_filter (λ y. not (same_text x y)) w.kept (once_each same_text xs) w.once (not_from_false (same_text x w.kept) f));
      there = inr w.there;
      same = w.same;
    })
    (cases_Bool (same_text x w.kept))

-- a tag that is used has a number
pub tag_number : (decls : List DeclText) → name_unknown decls ≡ None → (t : Lexeme) → IsIn (mention TagName t) (used_names decls) → list_any (names_it (mention TagName t)) (tag_names decls) ≡ true
tag_number decls none t h =
    let used = mention TagName t in
    let w = some_in (names_it used) (names_of decls TagName) (known_number decls none used h) in
    let m : Mention = w.0 in
    let v = once_kept m (names_of decls TagName) w.1 in
    let k : Mention = v.kept in
    let kind = eq-eqb _ _ (sym (eqb-true _ _ (from_filter (is_of TagName) k (declared_names decls) v.there).1)) in
    some_of (names_it used) k (tag_names decls) v.once
    (and_from (same_kind TagName k.kind && bytes_eq t.text k.text) _ (and_from (same_kind TagName k.kind) (bytes_eq t.text k.text) kind (same_to t.text k.text (its_text used m w.2 ∙ sym v.same))) refl)

one_tag : (decls : List DeclText) → name_unknown decls ≡ None → (t u : Lexeme) → IsIn (mention TagName t) (used_names decls) → IsIn (mention TagName u) (used_names decls) →
    number_of_tag decls t ≡ number_of_tag decls u → t.text ≡ u.text
one_tag decls none t u h g e =
    let x = one_item (names_it (mention TagName t)) (names_it (mention TagName u)) (tag_names decls) (mention TagName t) (tag_number decls none t h) (tag_number decls none u g) e in
    its_text (mention TagName t) x.0 x.1 ∙ sym (its_text (mention TagName u) x.0 x.2)

-- an item does not clash with an earlier one
pub clash_free : {X : Type 0} (test : X → X → Bool) (earlier xs : List X) → clash_with test earlier xs ≡ false → (x e : X) → IsIn x xs → IsIn e earlier → test x e ≡ false
clash_free test earlier [] h x e g i = absurd g
clash_free test earlier (y ∷ ys) h x e (inl g) i =
    ap (λ z. test z e) g ∙ none_in (test y) earlier (or_parts (list_any (test y) earlier) (clash_with test (earlier ++ y ∷ []) ys) h).0 e i
clash_free test earlier (y ∷ ys) h x e (inr g) i =
    clash_free test (earlier ++ y ∷ []) ys (or_parts (list_any (test y) earlier) (clash_with test (earlier ++ y ∷ []) ys) h).1 x e g (in_front e earlier (y ∷ []) i)

none_from : {X : Type 0} (test : X → Bool) (xs : List X) → ((x : X) → IsIn x xs → test x ≡ false) → list_any test xs ≡ false
none_from test [] h = refl
none_from test (x ∷ xs) h = or_from (test x) (list_any test xs) (h x (inl refl)) (none_from test xs (λ y g. h y (inr g)))

-- tags of different texts have different numbers
pub tags_differ : (decls : List DeclText) → name_unknown decls ≡ None → (earlier tags : List Lexeme) → ((t : Lexeme) → IsIn t tags → IsIn (mention TagName t) (used_names decls)) →
    clash_with same_texts earlier tags ≡ false → are_distinct (map (number_of_tag decls) tags) ≡ true
tags_differ decls none earlier [] used h = refl
tags_differ decls none earlier (t ∷ tags) used h =
    let num = number_of_tag decls in
    let rest = (or_parts (list_any (same_texts t) earlier) (clash_with same_texts (earlier ++ t ∷ []) tags) h).1 in
    let other : (n : ℕ) → IsIn n (map num tags) → eqb n (num t) ≡ false =
    λ n g. let w = from_map num n tags g in
    let u : Lexeme = w.0 in
    let apart = clash_free same_texts (earlier ++ t ∷ []) tags rest u t w.1 (in_back t earlier (t ∷ []) (inl refl)) in
    ne_eqb n (num t) (λ e. false≢true (sym apart ∙ same_to u.text t.text (one_tag decls none u t (used u (inr w.1)) (used t (inl refl)) (sym w.2 ∙ e)))) in
    and_from (not (has (map num tags) (num t))) (are_distinct (map num tags))
    (not_from_false (has (map num tags) (num t)) (none_from (λ n. eqb n (num t)) (map num tags) other))
    (tags_differ decls none (earlier ++ t ∷ []) tags (λ u g. used u (inr g)) rest)
