-- Numbers in order, those that pass a test, and rows of typed numbers.
use Rattle.std.proofs.Common.{◌≡◌, ℕ, zero, suc, ◌+◌, ◌<◌, Bool, true, false, cond, List, [], ◌∷◌, ◌++◌, length, take, sym, ap, subst, ◌∙◌, arith, slice_index, slice_index_or}
use Rattle.std.specs.Prelude.{◌==◌, filter, map, sum_by}
use Rattle.std.specs.List.{range_with_len}
use Rattle.std.proofs.Math.ListN.{get_or-map}
use Rattle.std.proofs.Math.Seq.{take-suc}
use Rattle.std.proofs.lemmas.List.{map-append, length-map}
use Rattle.std.proofs.lemmas.List.Elements.{filter-append}
use Rattle.std.proofs.lemmas.List.Sums.{sum_by-append}
use Rattle.policy_model.specs.Lists.{numbers_below}
use Rattle.policy_model.specs.Policy.{Policy, router_at}
use Rattle.policy_model.specs.Tags.{ifaces_of}
use Rattle.spoc_base.specs.declared.ids.IfId.{IfId}

module _ (test : ℕ → Bool) where
  below_by : (a bound : ℕ) (rest : List ℕ) → ((k : ℕ) → k < length rest → slice_index rest k < bound) → a < bound → (k : ℕ) (b : Bool) → k < length (cond b (a ∷ rest) rest) →
      slice_index (cond b (a ∷ rest) rest) k < bound
  below_by a bound rest others low zero true h = low
  below_by a bound rest others low (suc k) true h = others k (omega (arith, h))
  below_by a bound rest others low k false h = others k h

  -- what stands among the numbers that pass is below their end
  kept_below : (a n k : ℕ) → k < length (filter test (range_with_len a n)) → slice_index (filter test (range_with_len a n)) k < a + n
  kept_below a zero k h = absurd (omega (arith, h))
  kept_below a (suc n) k h =
      below_by a (a + suc n) (filter test (range_with_len (a + 1) n)) (λ j hj. let w = kept_below (a + 1) n j hj in omega (arith, w)) (omega arith) k (test a) h

-- a router's interfaces are below the count of interfaces
pub own_below : (p : Policy) (r : ℕ) (ids : List IfId) → map (λ i. i.0) ids ≡ ifaces_of p r → (k : ℕ) → k < length ids → (slice_index_or ids k (record { 0 = 0 })).0 < length p.ifaces
own_below p r ids e k h =
    let here : k < length (ifaces_of p r) = subst (λ (xs : List ℕ). k < length xs) e (subst (λ (n : ℕ). k < n) (sym (length-map ids (λ (i : IfId). i.0))) h) in
    let low = kept_below (λ i. router_at p i == r) 0 (length p.ifaces) k here in
    let same : (slice_index_or ids k (record { 0 = 0 })).0 ≡ slice_index (ifaces_of p r) k =
    sym (get_or-map (λ (i : IfId). i.0) ids k (record { 0 = 0 })) ∙ ap (λ (xs : List ℕ). slice_index xs k) e in
    subst (λ (x : ℕ). x < length p.ifaces) (sym same) (omega (arith, low))

-- one item more
pub taken_more : {A B : Type 0} (f : A → B) (xs : List A) (d : A) (k : ℕ) → k < length xs → map f (take (k + 1) xs) ≡ map f (take k xs) ++ f (slice_index_or xs k d) ∷ []
taken_more f xs d k h =
    let e : k + 1 ≡ suc k = omega arith in
    ap (λ (n : ℕ). map f (take n xs)) e ∙ (ap (map f) (take-suc xs k d h) ∙ map-append f (take k xs) (slice_index_or xs k d ∷ []))

range_more : (a n : ℕ) → range_with_len a (suc n) ≡ range_with_len a n ++ (a + n) ∷ []
range_more a zero = let e : a ≡ a + 0 = omega arith in ap (λ (x : ℕ). x ∷ []) e
range_more a (suc n) =
    let e : (a + 1) + n ≡ a + suc n = omega arith in
    ap (λ (xs : List ℕ). a ∷ xs) (range_more (a + 1) n ∙ ap (λ (x : ℕ). range_with_len (a + 1) n ++ x ∷ []) e)

-- one number more
kept_more : (test : ℕ → Bool) (n : ℕ) → filter test (numbers_below (n + 1)) ≡ filter test (numbers_below n) ++ filter test (n ∷ [])
kept_more test n =
    let e : n + 1 ≡ suc n = omega arith in
    let z : 0 + n ≡ n = omega arith in
    ap (λ (m : ℕ). filter test (numbers_below m)) e
    ∙ (ap (filter test) (range_more 0 n) ∙ (filter-append test (numbers_below n) ((0 + n) ∷ []) ∙ ap (λ (x : ℕ). filter test (numbers_below n) ++ filter test (x ∷ [])) z))

pub mapped_more : {A : Type 0} (f : ℕ → A) (test : ℕ → Bool) (n : ℕ) →
    map f (filter test (numbers_below (n + 1))) ≡ map f (filter test (numbers_below n)) ++ map f (filter test (n ∷ []))
mapped_more f test n = ap (map f) (kept_more test n) ∙ map-append f (filter test (numbers_below n)) (filter test (n ∷ []))

pub summed_more : (f : ℕ → ℕ) (test : ℕ → Bool) (n : ℕ) →
    sum_by f (filter test (numbers_below (n + 1))) ≡ sum_by f (filter test (numbers_below n)) + sum_by f (filter test (n ∷ []))
summed_more f test n = ap (sum_by f) (kept_more test n) ∙ sum_by-append f (filter test (numbers_below n)) (filter test (n ∷ []))

-- two lists that have an item for each of the same numbers are equally long
pub equally_long : {A B C D : Type 0} (f : A → C) (g : B → D) (h : ℕ → C) (k : ℕ → D) (xs : List A) (ys : List B) (numbers : List ℕ) →
    map f xs ≡ map h numbers → map g ys ≡ map k numbers → length xs ≡ length ys
equally_long f g h k xs ys numbers e d =
    sym (length-map xs f) ∙ (ap length e ∙ (length-map numbers h ∙ (sym (length-map numbers k) ∙ (sym (ap length d) ∙ length-map ys g))))
