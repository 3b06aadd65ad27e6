-- Lists that grow.
use Rattle.std.proofs.Common.{◌≡◌, ◌∙◌, refl, sym, ap, subst, ℕ, ◌+◌, ◌<◌, length, drop, get_or, Bool, true, false, ◌&&◌, List, [], ◌∷◌, ◌++◌, map, flat_map, fold, append_assoc, Result, Ok, Err, OnOk, IfOk}
use Rattle.std.specs.List.{All, list_all}
use Rattle.std.proofs.lemmas.List.{drop_more}
use Rattle.std.proofs.lemmas.List.Elements.{All-nil, All-cons, All-head, All-tail, All-push}

module _ {A E : Type 0} where
  pub grown : (r : Result (Unit {0}) E) (now old more other : List A) → OnOk r (now ≡ old ++ more) → more ≡ other → OnOk r (now ≡ old ++ other)
  grown (Ok u) now old more other h e = h ∙ ap (λ l. old ++ l) e
  grown (Err x) now old more other h e = h

pub flat_map_append : {A B : Type 0} (f : A → List B) (xs ys : List A) → flat_map f (xs ++ ys) ≡ flat_map f xs ++ flat_map f ys
flat_map_append f [] ys = refl
flat_map_append f (x ∷ xs) ys = ap (λ l. f x ++ l) (flat_map_append f xs ys) ∙ sym (append_assoc (f x) (flat_map f xs) (flat_map f ys))

pub fold_append : {A B : Type 0} (f : B → A → B) (b : B) (xs ys : List A) → fold f b (xs ++ ys) ≡ fold f (fold f b xs) ys
fold_append f b [] ys = refl
fold_append f b (x ∷ xs) ys = fold_append f (f b x) xs ys

pub map_map : {A B C : Type 0} (g : B → C) (f : A → B) (xs : List A) → map g (map f xs) ≡ map (λ x. g (f x)) xs
map_map g f [] = refl
map_map g f (x ∷ xs) = ap (λ l. g (f x) ∷ l) (map_map g f xs)

pub and_first : (a b : Bool) → (a && b) ≡ true → a ≡ true
and_first true b e = refl
and_first false b e = e

pub and_second : (a b : Bool) → (a && b) ≡ true → b ≡ true
and_second true b e = e
and_second false b e = absurd (cc)

pub flat_map_same : {A B : Type 0} (p : A → Bool) (f g : A → List B) → ((x : A) → p x ≡ true → f x ≡ g x) → (xs : List A) → list_all p xs ≡ true → flat_map f xs ≡ flat_map g xs
flat_map_same p f g same [] h = refl
flat_map_same p f g same (x ∷ xs) h =
    ap (λ l. l ++ flat_map f xs) (same x (and_first (p x) (list_all p xs) h)) ∙ ap (λ l. g x ++ l) (flat_map_same p f g same xs (and_second (p x) (list_all p xs) h))

-- a list that grows by what each item in turn is mapped to
pub more_mapped : {A B : Type 0} (f : A → B) (xs : List A) (i : ℕ) (d : A) → i < length xs → (old now all : List B) → old ++ map f (drop i xs) ≡ all → now ≡ old ++ f (get_or xs i d) ∷ [] → now ++ map f (drop (i + 1) xs) ≡ all
more_mapped f xs i d l old now all e g =
    ap (λ ys. ys ++ map f (drop (i + 1) xs)) g ∙ append_assoc old (f (get_or xs i d) ∷ []) (map f (drop (i + 1) xs)) ∙ ap (λ ys. old ++ map f ys) (sym (drop_more xs i d l)) ∙ e

pub more_twice_mapped : {A B C : Type 0} (g : B → C) (f : A → B) (xs : List A) (i : ℕ) (d : A) → i < length xs → (old now all : List C) → old ++ map g (map f (drop i xs)) ≡ all → now ≡ old ++ g (f (get_or xs i d)) ∷ []
    → now ++ map g (map f (drop (i + 1) xs)) ≡ all
more_twice_mapped g f xs i d l old now all e h =
    ap (λ ys. ys ++ map g (map f (drop (i + 1) xs))) h ∙ append_assoc old (g (f (get_or xs i d)) ∷ []) (map g (map f (drop (i + 1) xs))) ∙ ap (λ ys. old ++ map g (map f ys)) (sym (drop_more xs i d l)) ∙ e

pub all_pushed : {A : Type 0} (P : A → Type 0) (old now : List A) (x : A) → now ≡ old ++ x ∷ [] → All P old → P x → All P now
all_pushed P old now x e h p = subst (All P) (sym e) (All-push P old x h p)

pub if_both : {A E : Type 0} (r : Result A E) {P Q R : A → Type 0} → ((a : A) → P a → Q a → R a) → IfOk r P → IfOk r Q → IfOk r R
if_both (Ok a) f p q = f a p q
if_both (Err e) f p q = p

pub if_also : {A E : Type 0} (r : Result A E) {P Q : A → Type 0} → ((a : A) → P a → Q a) → IfOk r P → IfOk r Q
if_also (Ok a) f p = f a p
if_also (Err e) f p = p

-- a fold over what is left of a list, one item on
pub fold_more : {A B C D : Type 0} (f : C → B → C) (g : D → List B) (seen : A → D) (xs : List A) (i : ℕ) (d : A) → i < length xs → (old now all : C) → fold f old (flat_map g (map seen (drop i xs))) ≡ all → now ≡ fold f old (g (seen (get_or xs i d)))
    → fold f now (flat_map g (map seen (drop (i + 1) xs))) ≡ all
fold_more f g seen xs i d l old now all e h =
    ap (λ t. fold f t (flat_map g (map seen (drop (i + 1) xs)))) h ∙ sym (fold_append f old (g (seen (get_or xs i d))) (flat_map g (map seen (drop (i + 1) xs))))
    ∙ ap (λ ys. fold f old (flat_map g (map seen ys))) (sym (drop_more xs i d l)) ∙ e

pub all_mapped : {A : Type 0} (f : A → ℕ) (n : ℕ) (xs : List A) → All (λ x. f x < n) xs → All (λ m. m < n) (map f xs)
all_mapped f n [] h = All-nil (λ m. m < n)
all_mapped f n (x ∷ xs) h = All-cons (λ m. m < n) (f x) (map f xs) (All-head (λ y. f y < n) x xs h) (all_mapped f n xs (All-tail (λ y. f y < n) x xs h))
