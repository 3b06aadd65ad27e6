-- Names of which no two are the same.
use Rattle.std.proofs.Common.{arith, ◌≡◌, ◌∙◌, refl, sym, ap, subst, ℕ, zero, suc, ◌+◌, ◌<◌, Bool, true, false, ◌&&◌, ◌||◌, cond, eqb, List, [], ◌∷◌, ◌++◌, length, filter, take, get_or, slice_get, Option, Some, None, option_and_then, append-nil, append_assoc, length-append}
use Rattle.std.specs.Str.{bytes_eq}
use Rattle.std.specs.List.{list_any, range_with_len}
use Rattle.std.proofs.lemmas.List.Folds.{list_any-append}
use Rattle.std.proofs.lemmas.Slice.Eq.{bytes_eq-Decides}
use Rattle.policy_decls.specs.Names.{Mention, number_of_kind, same_kind, same_name, is_again, first_below, shown_at}
use Rattle.policy_names.specs.Tables.{twice_among}
use Rattle.policy_names.proofs.Twice.{again_at}
use Rattle.policy_nesting.proofs.Testing.{and_first, and_second, both, or_first, or_second, same_number, own_number}

-- ---- two mentions of one name

pub record Same (a b : Mention) : Type 0 where
  pub kind : number_of_kind a.kind ≡ number_of_kind b.kind
  pub owner : a.owner ≡ b.owner
  pub text : a.text ≡ b.text

pub same_of : (a b : Mention) → same_name a b ≡ true → Same a b
same_of a b e =
    let first = and_first (same_kind a.kind b.kind && bytes_eq a.owner b.owner) (bytes_eq a.text b.text) e in
    record {
      kind = same_number (number_of_kind a.kind) (number_of_kind b.kind) (and_first (same_kind a.kind b.kind) (bytes_eq a.owner b.owner) first);
      owner = (bytes_eq-Decides a.owner b.owner).0 (and_second (same_kind a.kind b.kind) (bytes_eq a.owner b.owner) first);
      text = (bytes_eq-Decides a.text b.text).0 (and_second (same_kind a.kind b.kind && bytes_eq a.owner b.owner) (bytes_eq a.text b.text) e);
    }

pub of_same : (a b : Mention) → Same a b → same_name a b ≡ true
of_same a b h =
    both (same_kind a.kind b.kind && bytes_eq a.owner b.owner) (bytes_eq a.text b.text)
    (both (same_kind a.kind b.kind) (bytes_eq a.owner b.owner) (ap (λ n. eqb (number_of_kind a.kind) n) (sym h.kind) ∙ own_number (number_of_kind a.kind)) ((bytes_eq-Decides a.owner b.owner).1 h.owner)) ((bytes_eq-Decides a.text b.text).1 h.text)

pub same_back : (a b : Mention) → Same a b → Same b a
same_back a b h = record { kind = sym h.kind; owner = sym h.owner; text = sym h.text }

pub same_on : (a b c : Mention) → Same a b → Same b c → Same a c
same_on a b c h g = record { kind = h.kind ∙ g.kind; owner = h.owner ∙ g.owner; text = h.text ∙ g.text }

pub turned : (a b : Mention) → same_name a b ≡ true → same_name b a ≡ true
turned a b e = of_same b a (same_back a b (same_of a b e))

pub not_turned : (a b : Mention) → same_name a b ≡ false → same_name b a ≡ false
not_turned a b e = by_test (same_name b a) refl
  where
    by_test : (t : Bool) → same_name b a ≡ t → t ≡ false
    by_test true h = sym (turned b a h) ∙ e
    by_test false h = refl

-- ---- lists without repeats

abbrev pub Apart : List Mention → Type 0
Apart [] = Unit {0}
Apart (x ∷ xs) = (list_any (same_name x) xs ≡ false) × Apart xs

pub or_none : (a b : Bool) → (a || b) ≡ false → (a ≡ false) × (b ≡ false)
or_none true b e = absurd (cc)
or_none false b e = (refl, e)

pub both_none : (a b : Bool) → a ≡ false → b ≡ false → (a || b) ≡ false
both_none true b e h = e
both_none false b e h = h

module _ {A : Type 0} (p : A → Bool) (f : A → Bool) where
  kept_none : (b : Bool) (x : A) (xs : List A) → p x ≡ false → list_any p xs ≡ false → list_any p (cond b (x ∷ xs) xs) ≡ false
  kept_none true x xs e h = both_none (p x) (list_any p xs) e h
  kept_none false x xs e h = h

  pub none_filter : (xs : List A) → list_any p xs ≡ false → list_any p (filter f xs) ≡ false
  none_filter [] e = refl
  none_filter (x ∷ xs) e = let parts = or_none (p x) (list_any p xs) e in kept_none (f x) x (filter f xs) parts.0 (none_filter xs parts.1)

kept_apart : (b : Bool) (x : Mention) (xs : List Mention) → list_any (same_name x) xs ≡ false → Apart xs → Apart (cond b (x ∷ xs) xs)
kept_apart true x xs e h = (e, h)
kept_apart false x xs e h = h

pub apart_filter : (f : Mention → Bool) (xs : List Mention) → Apart xs → Apart (filter f xs)
apart_filter f [] h = h
apart_filter f (x ∷ xs) h = kept_apart (f x) x (filter f xs) (none_filter (same_name x) f xs h.0) (apart_filter f xs h.1)

any_index : {A : Type 0} (p : A → Bool) (xs : List A) (i : ℕ) (d : A) → i < length xs → p (get_or xs i d) ≡ true → list_any p xs ≡ true
any_index p [] i d l e = absurd (omega arith)
any_index p (x ∷ xs) zero d l e = or_first (p x) (list_any p xs) e
any_index p (x ∷ xs) (suc i) d l e = or_second (p x) (list_any p xs) (any_index p xs i d (omega arith) e)

pub apart_at : (xs : List Mention) (i j : ℕ) (d : Mention) → Apart xs → i < length xs → j < length xs → same_name (get_or xs i d) (get_or xs j d) ≡ true → i ≡ j
apart_at [] i j d h l m e = absurd (omega arith)
apart_at (x ∷ xs) zero zero d h l m e = refl
apart_at (x ∷ xs) zero (suc j) d h l m e = let found = any_index (same_name x) xs j d (omega arith) e in let none = h.0 in absurd (cc)
apart_at (x ∷ xs) (suc i) zero d h l m e = let found = any_index (same_name x) xs i d (omega arith) (turned (get_or xs i d) x e) in let none = h.0 in absurd (cc)
apart_at (x ∷ xs) (suc i) (suc j) d h l m e = ap suc (apart_at xs i j d h.1 (omega arith) (omega arith) e)

-- no other name is the same as one in the middle
pub apart_middle : (before after : List Mention) (g : Mention) → Apart (before ++ g ∷ after) → (list_any (same_name g) before ≡ false) × (list_any (same_name g) after ≡ false)
apart_middle [] after g h = (refl, h.0)
apart_middle (x ∷ xs) after g h =
    let rest = apart_middle xs after g h.1 in
    let parts = or_none (list_any (same_name x) xs) (list_any (same_name x) (g ∷ after)) (sym (list_any-append (same_name x) xs (g ∷ after)) ∙ h.0) in
    (both_none (same_name g x) (list_any (same_name g) xs) (not_turned x g (or_none (same_name x g) (list_any (same_name x) after) parts.1).0) rest.0, rest.1)

-- ---- where nothing is declared twice

module _ (test : ℕ → Bool) where
  first_in : (b : Bool) (s n : ℕ) (xs : List ℕ) (i : ℕ) → s < n → ((j : ℕ) → slice_get xs 0 ≡ Some j → j < n) → slice_get (cond b (s ∷ xs) xs) 0 ≡ Some i → i < n
  first_in true s n xs i l h e = let same : s ≡ i = grind arith in omega arith
  first_in false s n xs i l h e = h i e

  in_range : (s n i : ℕ) → slice_get (filter test (range_with_len s n)) 0 ≡ Some i → i < s + n
  in_range s zero i e = absurd (cc)
  in_range s (suc n) i e = first_in (test s) s (s + suc n) (filter test (range_with_len (s + 1) n)) i (omega arith) (λ j h. let m = in_range (s + 1) n j h in omega arith) e

  step_none : (b : Bool) (s : ℕ) (xs : List ℕ) → slice_get (cond b (s ∷ xs) xs) 0 ≡ None → (b ≡ false) × (slice_get xs 0 ≡ None)
  step_none true s xs e = absurd (cc)
  step_none false s xs e = (refl, e)

  none_passed : (s n : ℕ) → slice_get (filter test (range_with_len s n)) 0 ≡ None → (k : ℕ) → k < n → test (s + k) ≡ false
  none_passed s zero e k l = absurd (omega arith)
  none_passed s (suc n) e zero l = let same : s + 0 ≡ s = omega arith in ap test same ∙ (step_none (test s) s (filter test (range_with_len (s + 1) n)) e).0
  none_passed s (suc n) e (suc k) l =
      let same : s + suc k ≡ s + 1 + k = omega arith in
      ap test same ∙ none_passed (s + 1) n (step_none (test s) s (filter test (range_with_len (s + 1) n)) e).1 k (omega arith)

shown_within : (names : List Mention) (i : ℕ) → i < length names → shown_at names i ≡ None → ⊥
shown_within [] i l e = absurd (omega arith)
shown_within (x ∷ xs) zero l e = cc
shown_within (x ∷ xs) (suc i) l e = shown_within xs i (omega arith) e

pub never_again : (names : List Mention) → twice_among names ≡ None → (k : ℕ) → k < length names → is_again names k ≡ false
never_again names e k l = by_first (first_below (is_again names) (length names)) refl
  where
    by_first : (first : Option ℕ) → first_below (is_again names) (length names) ≡ first → is_again names k ≡ false
    by_first None h = let same : 0 + k ≡ k = omega arith in ap (is_again names) (sym same) ∙ none_passed (is_again names) 0 (length names) h k l
    by_first (Some i) h =
        let within : i < length names = omega (arith, in_range (is_again names) 0 (length names) i h) in
        absurd (shown_within names i within (sym (ap (option_and_then (shown_at names)) h) ∙ e))

-- each of the rest is none of those before it
abbrev Fresh : List Mention → List Mention → Type 0
Fresh before [] = Unit {0}
Fresh before (x ∷ xs) = (list_any (same_name x) before ≡ false) × Fresh (before ++ x ∷ []) xs

middle : {A : Type 0} (before : List A) (x : A) (xs : List A) → slice_get (before ++ x ∷ xs) (length before) ≡ Some x
middle [] x xs = refl
middle (y ∷ ys) x xs = middle ys x xs

front : {A : Type 0} (before after : List A) → take (length before) (before ++ after) ≡ before
front [] after = refl
front (y ∷ ys) after = ap (λ l. y ∷ l) (front ys after)

fresh : (before rest : List Mention) → ((k : ℕ) → k < length (before ++ rest) → is_again (before ++ rest) k ≡ false) → Fresh before rest
fresh before [] h = tt
fresh before (x ∷ xs) h =
    let split = append_assoc before (x ∷ []) xs in (
      sym (again_at (before ++ x ∷ xs) (length before) x (middle before x xs) ∙ ap (list_any (same_name x)) (front before (x ∷ xs))) ∙ h (length before) (omega (arith, length-append before (x ∷ xs))),
      fresh (before ++ x ∷ []) xs (subst (λ l. (k : ℕ) → k < length l → is_again l k ≡ false) (sym split) h),
    )

fresh_none : (z : Mention) (before rest : List Mention) → ((y : Mention) (more : List Mention) → list_any (same_name y) (before ++ more) ≡ false → same_name z y ≡ false) → Fresh before rest → list_any (same_name z) rest ≡ false
fresh_none z before [] h f = refl
fresh_none z before (x ∷ xs) h f =
    both_none (same_name z x) (list_any (same_name z) xs) (h x [] (ap (list_any (same_name x)) (append-nil before) ∙ f.0))
    (fresh_none z (before ++ x ∷ []) xs (λ y more e. h y (x ∷ more) (ap (list_any (same_name y)) (sym (append_assoc before (x ∷ []) more)) ∙ e)) f.1)

apart_fresh : (before rest : List Mention) → Fresh before rest → Apart rest
apart_fresh before [] f = tt
apart_fresh before (x ∷ xs) f = (
  fresh_none x (before ++ x ∷ []) xs (λ y more e. last_apart y (or_none (list_any (same_name y) (before ++ x ∷ [])) (list_any (same_name y) more) (sym (list_any-append (same_name y) (before ++ x ∷ []) more) ∙ e)).0) f.1,
  apart_fresh (before ++ x ∷ []) xs f.1,
)
  where
    last_apart : (y : Mention) → list_any (same_name y) (before ++ x ∷ []) ≡ false → same_name x y ≡ false
    last_apart y e =
        let parts = or_none (list_any (same_name y) before) (list_any (same_name y) (x ∷ [])) (sym (list_any-append (same_name y) before (x ∷ [])) ∙ e) in
        not_turned y x (or_none (same_name y x) false parts.1).0

pub apart_of : (names : List Mention) → twice_among names ≡ None → Apart names
apart_of names e = apart_fresh [] names (fresh [] names (never_again names e))
