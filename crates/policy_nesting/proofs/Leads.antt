-- To which nodes a node leads.
use Rattle.std.proofs.Common.{arith, ◌≡◌, ◌∙◌, sym, ap, ℕ, zero, suc, ◌+◌, ◌-◌, ◌≤◌, Bool, true, ◌||◌, eqb, List, []}
use Rattle.policy_nesting.specs.Graph.{row_at, holds, leads, flag_at}
use Rattle.policy_nesting.specs.Search.{Covers}
use Rattle.policy_nesting.proofs.Testing.{or_first, or_second, either, same_number, any_then, any_all}

module _ (rows : List (List ℕ)) where
  pub leads_more : (n a b : ℕ) → leads rows n a b ≡ true → leads rows (suc n) a b ≡ true
  leads_more zero a b e = absurd (cc)
  leads_more (suc n) a b e =
      any_then (λ k. eqb k b || leads rows n k b) (λ k. eqb k b || leads rows (suc n) k b)
      (λ k d. either (eqb k b) (leads rows n k b) d (λ g. or_first (eqb k b) (leads rows (suc n) k b) g) (λ g. or_second (eqb k b) (leads rows (suc n) k b) (leads_more n k b g))) (row_at rows a) e

  leads_add : (m n a b : ℕ) → leads rows n a b ≡ true → leads rows (m + n) a b ≡ true
  leads_add zero n a b e = let same : 0 + n ≡ n = omega arith in ap (λ i. leads rows i a b) same ∙ e
  leads_add (suc m) n a b e = let same : suc m + n ≡ suc (m + n) = omega arith in ap (λ i. leads rows i a b) same ∙ leads_more (m + n) a b (leads_add m n a b e)

  pub leads_le : (n m a b : ℕ) → n ≤ m → leads rows n a b ≡ true → leads rows m a b ≡ true
  leads_le n m a b l e = let same : m ≡ (m - n) + n = omega arith in ap (λ i. leads rows i a b) same ∙ leads_add (m - n) n a b e

  pub leads_first : (n a k : ℕ) → holds (row_at rows a) k ≡ true → leads rows (suc n) a k ≡ true
  leads_first n a k e = any_then (λ j. eqb j k) (λ j. eqb j k || leads rows n j k) (λ j d. or_first (eqb j k) (leads rows n j k) d) (row_at rows a) e

  -- one step more at the end
  pub leads_on : (n a x k : ℕ) → leads rows n a x ≡ true → holds (row_at rows x) k ≡ true → leads rows (suc n) a k ≡ true
  leads_on zero a x k e h = absurd (cc)
  leads_on (suc n) a x k e h =
      any_then (λ y. eqb y x || leads rows n y x) (λ y. eqb y k || leads rows (suc n) y k)
      (λ y d. or_second (eqb y k) (leads rows (suc n) y k) (either (eqb y x) (leads rows n y x) d (λ g. leads_first n y k (ap (λ i. holds (row_at rows i) k) (same_number y x g) ∙ h)) (λ g. leads_on n y x k g h))) (row_at rows a) e

  module _ (a : ℕ) (marked : List Bool) (covers : Covers rows a marked []) where
    -- from a marked node, only marked ones are reached
    stays : (n y k : ℕ) → flag_at marked y ≡ true → leads rows n y k ≡ true → flag_at marked k ≡ true
    stays zero y k f e = absurd (cc)
    stays (suc n) y k f e =
        any_all (flag_at marked) (λ j. eqb j k || leads rows n j k) (row_at rows y) (covers.others y f) e
        (λ j g d. either (eqb j k) (leads rows n j k) d (λ same. ap (flag_at marked) (sym (same_number j k same)) ∙ g) (λ on. stays n j k g on))

    pub all_marked : (n k : ℕ) → leads rows n a k ≡ true → flag_at marked k ≡ true
    all_marked zero k e = absurd (cc)
    all_marked (suc n) k e =
        any_all (flag_at marked) (λ j. eqb j k || leads rows n j k) (row_at rows a) covers.own e
        (λ j g d. either (eqb j k) (leads rows n j k) d (λ same. ap (flag_at marked) (sym (same_number j k same)) ∙ g) (λ on. stays n j k g on))
