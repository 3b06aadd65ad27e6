-- Lists that are cut at one of their items, and the first item that passes a test.
use Rattle.std.proofs.Common.{◌≡◌, ℕ, zero, suc, ◌+◌, ◌<◌, ◌⊎◌, inl, inr, Bool, true, false, not, cond, ◌||◌, List, [], ◌∷◌, ◌++◌, length, map, get_or, take, drop, refl, sym, ap, subst, ◌∙◌, ⊎_elim, arith}
use Rattle.std.specs.Prelude.{Some, None, position, flat_map, filter, nat_lt}
use Rattle.std.specs.List.{list_any, position_or_len, slice_get}
use Rattle.std.proofs.lemmas.List.{append-nil, append_assoc, length-append, take-append-drop, drop_more, length-take-le, get_or-take}
use Rattle.std.proofs.lemmas.List.Elements.{filter-append}
use Rattle.std.proofs.lemmas.Bool.{or_parts, false≢true, lt-ltb, cond-true}
use Rattle.policy_model.proofs.AllWalks.{IsIn}
use Rattle.policy_decls.specs.Shapes.{clash_with}
use Rattle.policy_decls.specs.Said.{or_zero}

-- ---- an item, and what stands before and behind it

pub record CutAt {X : Type 0} (x : X) (xs : List X) : Type 0 where
  pub before : List X
  pub after : List X
  pub is : xs ≡ before ++ x ∷ after

pub cut_in : {X : Type 0} (x : X) (xs : List X) → IsIn x xs → CutAt x xs
cut_in x [] h = absurd h
cut_in x (y ∷ ys) (inl e) = record { before = []; after = ys; is = ap (λ z. z ∷ ys) (sym e) }
cut_in x (y ∷ ys) (inr h) = let w = cut_in x ys h in record { before = y ∷ w.before; after = w.after; is = ap (λ zs. y ∷ zs) w.is }

pub in_cut : {X : Type 0} (x : X) (before after : List X) → IsIn x (before ++ x ∷ after)
in_cut x [] after = inl refl
in_cut x (y ∷ before) after = inr (in_cut x before after)

pub in_get : {X : Type 0} (xs : List X) (i : ℕ) (d : X) → i < length xs → IsIn (get_or xs i d) xs
in_get [] i d h = absurd (omega arith)
in_get (x ∷ xs) zero d h = inl refl
in_get (x ∷ xs) (suc i) d h = inr (in_get xs i d (omega arith))

-- the item at j, behind those before it
pub cut_at_index : {X : Type 0} (xs : List X) (j : ℕ) (d : X) → j < length xs → xs ≡ take j xs ++ get_or xs j d ∷ drop (j + 1) xs
cut_at_index xs j d h = sym (take-append-drop j xs) ∙ ap (λ l. take j xs ++ l) (drop_more xs j d h)

-- an earlier item is among those before it
pub in_take : {X : Type 0} (xs : List X) (i j : ℕ) (d : X) → i < j → j < length xs → IsIn (get_or xs i d) (take j xs)
in_take xs i j d lt h = subst (λ x. IsIn x (take j xs)) (get_or-take j xs i d lt) (in_get (take j xs) i d (omega (arith, length-take-le j xs (omega arith))))

pub get_at_cut : {X : Type 0} (x : X) (before after : List X) → slice_get (before ++ x ∷ after) (length before) ≡ Some x
get_at_cut x [] after = refl
get_at_cut x (y ∷ before) after = get_at_cut x before after

pub take_at_cut : {X : Type 0} (x : X) (before after : List X) → take (length before) (before ++ x ∷ after) ≡ before
take_at_cut x [] after = refl
take_at_cut x (y ∷ before) after = ap (λ l. y ∷ l) (take_at_cut x before after)

pub within_cut : {X : Type 0} (x : X) (before after : List X) → length before < length (before ++ x ∷ after)
within_cut x before after = omega (arith, length-append before (x ∷ after))

-- ---- joined lists, cut at one item

append_cut : {X : Type 0} (us vs A B : List X) (y : X) → us ++ vs ≡ A ++ y ∷ B → ((V : List X) × (us ≡ A ++ y ∷ V)) ⊎ ((C : List X) × (A ≡ us ++ C) × (vs ≡ C ++ y ∷ B))
append_cut [] vs A B y e = inr (A, refl, e)
append_cut (u ∷ us) vs [] B y e = inl (us, ap (λ z. z ∷ us) (ap (λ l. get_or l 0 u) e))
append_cut (u ∷ us) vs (a ∷ A) B y e =
    let head = ap (λ l. get_or l 0 u) e in
    ⊎_elim (λ w. inl (w.0, ap (λ l. u ∷ l) w.1 ∙ ap (λ z. z ∷ (A ++ y ∷ w.0)) head)) (λ w. inr (w.0, ap (λ l. a ∷ l) w.1 ∙ ap (λ z. z ∷ (us ++ w.0)) (sym head), w.2)) (append_cut us vs A B y (ap (λ l. drop 1 l) e))

pub record FlatCut {D X : Type 0} (f : D → List X) (ds : List D) (A : List X) (y : X) : Type 0 where
  pub before : List D
  pub at : D
  pub after : List D
  pub front : List X
  pub back : List X
  pub is : ds ≡ before ++ at ∷ after
  pub there : f at ≡ front ++ y ∷ back
  pub ahead : A ≡ flat_map f before ++ front

pub flat_cut : {D X : Type 0} (f : D → List X) (ds : List D) (A B : List X) (y : X) → flat_map f ds ≡ A ++ y ∷ B → FlatCut f ds A y
flat_cut f [] A B y e = absurd (omega (arith, ap length e, length-append A (y ∷ B)))
flat_cut f (d ∷ ds) A B y e =
    ⊎_elim (λ w. record { before = []; at = d; after = ds; front = A; back = w.0; is = refl; there = w.1; ahead = refl })
    (λ w. let v = flat_cut f ds w.0 B y w.2 in
    record {
      before = d ∷ v.before;
      at = v.at;
      after = v.after;
      front = v.front;
      back = v.back;
      is = ap (λ l. d ∷ l) v.is;
      there = v.there;
      ahead = w.1 ∙ ap (λ l. f d ++ l) v.ahead ∙ sym (append_assoc (f d) (flat_map f v.before) v.front);
    })
    (append_cut (f d) (flat_map f ds) A B y e)

-- where no two clash, an item clashes with none before it
pub no_clash : {X : Type 0} (test : X → X → Bool) (earlier A : List X) (y : X) (B : List X) → clash_with test earlier (A ++ y ∷ B) ≡ false → list_any (test y) (earlier ++ A) ≡ false
no_clash test earlier [] y B h = ap (list_any (test y)) (append-nil earlier) ∙ (or_parts (list_any (test y) earlier) (clash_with test (earlier ++ y ∷ []) B) h).0
no_clash test earlier (a ∷ A) y B h =
    ap (list_any (test y)) (sym (append_assoc earlier (a ∷ []) A))
    ∙ no_clash test (earlier ++ a ∷ []) A y B (or_parts (list_any (test a) earlier) (clash_with test (earlier ++ a ∷ []) (A ++ y ∷ B)) h).1

-- ---- the place of the first item that passes

abbrev pub place : {X : Type 0} → (X → Bool) → List X → ℕ
place test [] = zero
place test (x ∷ xs) = cond (test x) zero (suc (place test xs))

place_turn : (b : Bool) (n m : ℕ) → n ≡ m → cond (not b) (1 + n) 0 ≡ cond b zero (suc m)
place_turn true n m e = refl
place_turn false n m e = omega (arith, e)

place_is : {X : Type 0} (test : X → Bool) (xs : List X) → position_or_len test xs ≡ place test xs
place_is test [] = refl
place_is test (x ∷ xs) = place_turn (test x) (position_or_len test xs) (place test xs) (place_is test xs)

place_here : {X : Type 0} (test : X → Bool) (x : X) (xs : List X) (d : X) (b : Bool) → test x ≡ b →
    (list_any test xs ≡ true → (place test xs < length xs) × (test (get_or xs (place test xs) d) ≡ true)) → (b || list_any test xs) ≡ true →
    (cond b zero (suc (place test xs)) < suc (length xs)) × (test (get_or (x ∷ xs) (cond b zero (suc (place test xs))) d) ≡ true)
place_here test x xs d true e later h = (omega arith, e)
place_here test x xs d false e later h = let w = later h in (omega (arith, w.0), w.1)

pub place_passes : {X : Type 0} (test : X → Bool) (xs : List X) (d : X) → list_any test xs ≡ true → (place test xs < length xs) × (test (get_or xs (place test xs) d) ≡ true)
place_passes test [] d h = absurd (false≢true h)
place_passes test (x ∷ xs) d h = place_here test x xs d (test x) refl (place_passes test xs d) h

pub number_is_place : {X : Type 0} (test : X → Bool) (xs : List X) (d : X) → list_any test xs ≡ true → or_zero (position test xs) ≡ place test xs
number_is_place test xs d h =
    let n = position_or_len test xs in
    let e = place_is test xs in
    let w = place_passes test xs d h in
    ap or_zero (cond-true (nat_lt n (length xs)) (Some n) None (lt-ltb n (length xs) (omega (arith, e, w.0)))) ∙ e

pub place_map : {X Y : Type 0} (test : Y → Bool) (f : X → Y) (xs : List X) → place test (map f xs) ≡ place (λ x. test (f x)) xs
place_map test f [] = refl
place_map test f (x ∷ xs) = ap (λ n. cond (test (f x)) zero (suc n)) (place_map test f xs)

-- a filter of joined lists, and a map of them
pub filter_flat : {D X : Type 0} (keep : X → Bool) (f : D → List X) (ds : List D) → filter keep (flat_map f ds) ≡ flat_map (λ d. filter keep (f d)) ds
filter_flat keep f [] = refl
filter_flat keep f (d ∷ ds) = filter-append keep (f d) (flat_map f ds) ∙ ap (λ l. filter keep (f d) ++ l) (filter_flat keep f ds)
