-- Marks are looked at interface by interface.
use Rattle.std.proofs.Common.{◌≡◌, ℕ, zero, suc, ◌+◌, ◌<◌, inl, inr, Bool, true, false, List, [], ◌∷◌, ◌++◌, refl, sym, ap, subst, ◌∙◌, arith}
use Rattle.std.specs.List.{list_all, range_with_len}
use Rattle.std.proofs.lemmas.Bool.{and_parts, and_from, false≢true}
use Rattle.policy_model.specs.Lists.{numbers_below}
use Rattle.policy_model.proofs.AllWalks.{IsIn, in_numbers}
use Rattle.path_walk.proofs.Fronts.{refused}

one_more : (a n : ℕ) → range_with_len a (suc n) ≡ range_with_len a n ++ (a + n) ∷ []
one_more a zero = let e : a ≡ a + 0 = omega arith in ap (λ k. k ∷ []) e
one_more a (suc n) = ap (λ l. a ∷ l) (one_more (a + 1) n ∙ (let e : (a + 1) + n ≡ a + suc n = omega arith in ap (λ k. range_with_len (a + 1) n ++ k ∷ []) e))

all_append : (test : ℕ → Bool) (xs : List ℕ) (y : ℕ) → list_all test xs ≡ true → test y ≡ true → list_all test (xs ++ y ∷ []) ≡ true
all_append test [] y h t = and_from (test y) true t refl
all_append test (x ∷ xs) y h t = let a = and_parts (test x) (list_all test xs) h in and_from (test x) (list_all test (xs ++ y ∷ [])) a.0 (all_append test xs y a.1 t)

pub all_more : (test : ℕ → Bool) (n : ℕ) → list_all test (numbers_below n) ≡ true → test n ≡ true → list_all test (numbers_below (n + 1)) ≡ true
all_more test n h t =
    let e : n + 1 ≡ suc n = omega arith in
    let same : 0 + n ≡ n = omega arith in
    subst (λ k. list_all test (numbers_below k) ≡ true) (sym e)
    (subst (λ l. list_all test l ≡ true) (sym (one_more 0 n)) (all_append test (numbers_below n) (0 + n) h (ap test same ∙ t)))

each_in : (test : ℕ → Bool) (xs : List ℕ) → list_all test xs ≡ true → (x : ℕ) → IsIn x xs → test x ≡ true
each_in test [] h x g = absurd g
each_in test (y ∷ ys) h x (inl e) = ap test e ∙ (and_parts (test y) (list_all test ys) h).0
each_in test (y ∷ ys) h x (inr g) = each_in test ys (and_parts (test y) (list_all test ys) h).1 x g

pub all_but_one : (test : ℕ → Bool) (n k : ℕ) → k < n → test k ≡ false → list_all test (numbers_below n) ≡ false
all_but_one test n k below not_there = refused (list_all test (numbers_below n)) (λ t. false≢true (sym not_there ∙ each_in test (numbers_below n) t k (in_numbers n k below)))
