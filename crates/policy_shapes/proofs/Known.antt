-- Sets of names with some more, and clashes by them.
use Rattle.std.proofs.Common.{◌≡◌, ◌∙◌, refl, sym, ap, ℕ, ◌+◌, ◌<◌, ◌≤◌, Bool, true, false, not, ◌&&◌, ◌||◌, cond, List, [], ◌∷◌, ◌++◌, length, map, flat_map, drop, get_or, append-nil, add-one, drop-cons}
use Rattle.std.specs.Prelude.{Result, Ok, Err, IfOk, OnOk}
use Rattle.std.specs.Str.{bytes_eq}
use Rattle.std.specs.List.{list_any}
use Rattle.std.proofs.lemmas.List.{drop_all, map-append}
use Rattle.std.proofs.lemmas.List.Folds.{list_any-append}
use Rattle.std.proofs.lemmas.Grind.{flat_map-append}
use Rattle.std.proofs.lemmas.Slice.Eq.{bytes_eq-Decides}
use Rattle.policy_decls.specs.Shapes.{clash_with}
use Rattle.policy_shapes.specs.Keys.{Key, same_key, key, has_key, with_keys, clash_known}

or_assoc : (a b c : Bool) → ((a || b) || c) ≡ (a || (b || c))
or_assoc true b c = refl
or_assoc false b c = refl

or_false : (a : Bool) → (a || false) ≡ a
or_false true = refl
or_false false = refl

pub with_none : (has : Key → Bool) → with_keys has [] ≡ has
unfolding with_keys
with_none has i k = or_false (has k) i

pub with_more : (has : Key → Bool) (xs ys : List Key) → with_keys (with_keys has xs) ys ≡ with_keys has (xs ++ ys)
unfolding with_keys
with_more has xs ys i k = (or_assoc (has k) (has_key xs k) (has_key ys k) ∙ ap (λ b. has k || b) (sym (list_any-append (same_key k) xs ys))) i

pub has_appended : (xs ys : List Key) → has_key (xs ++ ys) ≡ with_keys (has_key xs) ys
unfolding with_keys
has_appended xs ys i k = list_any-append (same_key k) xs ys i

pub with_empty : (keys more : List Key) → keys ≡ [] → with_keys (has_key keys) more ≡ has_key more
unfolding with_keys
with_empty keys more e = ap (λ l. with_keys (has_key l) more) e

-- ---- a name that is added unless it is there

and_first : (a b : Bool) → (a && b) ≡ true → a ≡ true
and_first true b e = refl
and_first false b e = e

and_second : (a b : Bool) → (a && b) ≡ true → b ≡ true
and_second true b e = e
and_second false b e = absurd (cc)

same_is : (a b : Key) → same_key a b ≡ true → a ≡ b
same_is a b e =
    let o : a.owner ≡ b.owner = (bytes_eq-Decides a.owner b.owner).0 (and_first (bytes_eq a.owner b.owner) (bytes_eq a.text b.text) e) in
    let t : a.text ≡ b.text = (bytes_eq-Decides a.text b.text).0 (and_second (bytes_eq a.owner b.owner) (bytes_eq a.text b.text) e) in
    λ i. key (o i) (t i)

there : (keys : List Key) (k q : Key) (b : Bool) → same_key q k ≡ b → has_key keys k ≡ true → has_key keys q ≡ (has_key keys q || (b || false))
there keys k q false e h = sym (or_false (has_key keys q))
there keys k q true e h = ap (has_key keys) (same_is q k e) ∙ h ∙ sym (ap (λ b. b || true) (ap (has_key keys) (same_is q k e) ∙ h))

added : (keys now : List Key) (k : Key) (b new : Bool) → has_key keys k ≡ b → new ≡ not b → now ≡ cond new (keys ++ k ∷ []) keys → has_key now ≡ with_keys (has_key keys) (k ∷ [])
unfolding with_keys
added keys now k false new e f g = ap has_key (g ∙ ap (λ c. cond c (keys ++ k ∷ []) keys) f) ∙ has_appended keys (k ∷ [])
added keys now k true new e f g =
    ap has_key (g ∙ ap (λ c. cond c (keys ++ k ∷ []) keys) f) ∙ (λ i q. there keys k q (same_key q k) refl e i)

pub ok_added : {E : Type 0} (result : Result Bool E) (keys now : List Key) (k : Key) → IfOk result (λ new. new ≡ not (has_key keys k)) → IfOk result (λ new. now ≡ cond new (keys ++ k ∷ []) keys) → OnOk result (has_key now ≡ with_keys (has_key keys) (k ∷ []))
ok_added (Ok new) keys now k e f = added keys now k (has_key keys k) new refl e f
ok_added (Err x) keys now k e f = tt

-- ---- a walk over items that give names

pub keys_more : {A B : Type 0} (f : A → List B) (key_of : B → Key) (x : A) (xs : List A) → map key_of (flat_map f (x ∷ xs)) ≡ map key_of (f x) ++ map key_of (flat_map f xs)
keys_more f key_of x xs = map-append key_of (f x) (flat_map f xs)

module _ {A B : Type 0} (seen : B → A) (xs : List B) (i : ℕ) (d : B) (within : i < length xs) where
  head : map seen (drop i xs) ≡ seen (get_or xs i d) ∷ map seen (drop (i + 1) xs)
  head = rw (add-one, drop-cons xs i d within) refl

  pub known_step : (keys : List A → List Key) (has now goal : Key → Bool) (more : List Key) → keys (seen (get_or xs i d) ∷ map seen (drop (i + 1) xs)) ≡ more ++ keys (map seen (drop (i + 1) xs))
      → now ≡ with_keys has more → with_keys has (keys (map seen (drop i xs))) ≡ goal → with_keys now (keys (map seen (drop (i + 1) xs))) ≡ goal
  known_step keys has now goal more e n h =
      let rest = keys (map seen (drop (i + 1) xs)) in
      ap (λ f. with_keys f rest) n ∙ with_more has more rest ∙ ap (with_keys has) (sym e) ∙ ap (λ l. with_keys has (keys l)) (sym head) ∙ h

  module _ (asks gives : A → List Key) (has : Key → Bool) (goal : Bool) (known : clash_known asks gives has (map seen (drop i xs)) ≡ goal) where
    pub clash_here : list_any has (asks (seen (get_or xs i d))) ≡ true → true ≡ goal
    clash_here e = ap (λ b. b || clash_known asks gives (with_keys has (gives (seen (get_or xs i d)))) (map seen (drop (i + 1) xs))) (sym e) ∙ ap (clash_known asks gives has) (sym head) ∙ known

    pub clash_step : (now : Key → Bool) → list_any has (asks (seen (get_or xs i d))) ≡ false → now ≡ with_keys has (gives (seen (get_or xs i d))) → clash_known asks gives now (map seen (drop (i + 1) xs)) ≡ goal
    clash_step now e n =
        ap (λ f. clash_known asks gives f (map seen (drop (i + 1) xs))) n
        ∙ ap (λ b. b || clash_known asks gives (with_keys has (gives (seen (get_or xs i d)))) (map seen (drop (i + 1) xs))) (sym e) ∙ ap (clash_known asks gives has) (sym head) ∙ known

-- one more item, which gives the keys of some of its words
pub known_more : {A B C : Type 0} (f : A → List C) (key_of : C → Key) (seen : B → A) (xs : List B) (i : ℕ) (d : B) → i < length xs → (has now goal : Key → Bool) → now ≡ with_keys has (map key_of (f (seen (get_or xs i d))))
    → with_keys has (map key_of (flat_map f (map seen (drop i xs)))) ≡ goal → with_keys now (map key_of (flat_map f (map seen (drop (i + 1) xs)))) ≡ goal
known_more f key_of seen xs i d within has now goal e h =
    known_step seen xs i d within (λ items. map key_of (flat_map f items)) has now goal (map key_of (f (seen (get_or xs i d)))) (keys_more f key_of (seen (get_or xs i d)) (map seen (drop (i + 1) xs))) e h

pub known_end : {A B : Type 0} (seen : B → A) (xs : List B) (i : ℕ) (keys : List A → List Key) (has goal : Key → Bool) → length xs ≤ i → keys [] ≡ [] → with_keys has (keys (map seen (drop i xs))) ≡ goal → has ≡ goal
known_end seen xs i keys has goal l e h = sym (with_none has) ∙ ap (with_keys has) (sym e) ∙ ap (λ ys. with_keys has (keys (map seen ys))) (sym (drop_all i xs l)) ∙ h

-- ---- clashes by names

pub any_none : {A : Type 0} (xs : List A) → list_any (λ _. false) xs ≡ false
any_none [] = refl
any_none (x ∷ xs) = any_none xs

or_swap : (a b c d : Bool) → ((a || b) || (c || d)) ≡ ((a || c) || (b || d))
or_swap true b c d = refl
or_swap false true true d = refl
or_swap false true false d = refl
or_swap false false true d = refl
or_swap false false false d = refl

any_or : {A : Type 0} (p q : A → Bool) (xs : List A) → (list_any p xs || list_any q xs) ≡ list_any (λ x. p x || q x) xs
any_or p q [] = refl
any_or p q (x ∷ xs) = or_swap (p x) (list_any p xs) (q x) (list_any q xs) ∙ ap (λ b. (p x || q x) || b) (any_or p q xs)

module _ {A : Type 0} (test : A → A → Bool) (asks gives : A → List Key) (agree : (x y : A) → test x y ≡ list_any (has_key (gives y)) (asks x)) where
  any_swap : (ks : List Key) (ys : List A) → list_any (λ y. list_any (has_key (gives y)) ks) ys ≡ list_any (has_key (flat_map gives ys)) ks
  any_swap ks [] = sym (any_none ks)
  any_swap ks (y ∷ ys) =
      ap (λ b. list_any (has_key (gives y)) ks || b) (any_swap ks ys) ∙ any_or (has_key (gives y)) (has_key (flat_map gives ys)) ks
      ∙ ap (λ p. list_any p ks) (λ i k. sym (list_any-append (same_key k) (gives y) (flat_map gives ys)) i)

  one_more : (before : List A) (x : A) (has : Key → Bool) → has ≡ has_key (flat_map gives before) → with_keys has (gives x) ≡ has_key (flat_map gives (before ++ x ∷ []))
  one_more before x has e =
      ap (λ h. with_keys h (gives x)) e ∙ sym (has_appended (flat_map gives before) (gives x))
      ∙ ap (λ l. has_key (flat_map gives before ++ l)) (sym (append-nil (gives x))) ∙ ap has_key (sym (flat_map-append gives before (x ∷ [])))

  pub clash_is : (before : List A) (has : Key → Bool) → has ≡ has_key (flat_map gives before) → (xs : List A) → clash_with test before xs ≡ clash_known asks gives has xs
  clash_is before has e [] = refl
  clash_is before has e (x ∷ xs) =
      ap (λ b. b || clash_with test (before ++ x ∷ []) xs) (ap (λ t. list_any t before) (λ i y. agree x y i) ∙ any_swap (asks x) before ∙ ap (λ h. list_any h (asks x)) (sym e))
      ∙ ap (λ b. list_any has (asks x) || b) (clash_is (before ++ x ∷ []) (with_keys has (gives x)) (one_more before x has e) xs)
