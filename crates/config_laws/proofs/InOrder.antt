-- What stands where among the numbers that pass a test.
use Rattle.std.proofs.Common.{◌≡◌, ℕ, zero, suc, ◌+◌, ◌<◌, ◌≤◌, Bool, true, false, cond, List, [], ◌∷◌, length, map, take, refl, sym, ap, ◌∙◌, ⊎_elim, arith}
use Rattle.std.specs.Prelude.{◌==◌, nat_lt, filter, count_by, slice_index_or, is_some}
use Rattle.std.specs.List.{range_with_len}
use Rattle.std.proofs.lemmas.Bool.{lt-ltb, eq-eqb, ltb-true, false≢true, cases_eq, false_from_ne_true}
use Rattle.std.proofs.lemmas.List.Sums.{sum_by-cons}
use Rattle.policy_model.specs.Policy.{Router, no_router, router_at, is_managed}
use Rattle.policy_model.specs.Tags.{ifaces_of}
use Rattle.policy_model.specs.Passing.{Config, no_config, config_of, list_in}
use Rattle.policy_model.specs.Headline.{Meaning}
use Rattle.policy_model.proofs.AllWalks.{managed_is_there}
use Rattle.config_laws.specs.Written.{written_lines, written_config, written_configs}

-- ---- by how many lower ones there are

abbrev lower : ℕ → ℕ → Bool
lower k j = nat_lt j k

none_lower : (t : ℕ → Bool) (a n k : ℕ) → k ≤ a → filter (lower k) (filter t (range_with_len a n)) ≡ []
none_lower t a zero k h = refl
none_lower t a (suc n) k h = go (t a) (none_lower t (a + 1) n k (omega arith))
  where
    no : nat_lt a k ≡ false
    no = false_from_ne_true (nat_lt a k) (λ e. let g = ltb-true a k e in omega (arith, g, h))

    go : (b : Bool) → filter (lower k) (filter t (range_with_len (a + 1) n)) ≡ [] → filter (lower k) (cond b (a ∷ filter t (range_with_len (a + 1) n)) (filter t (range_with_len (a + 1) n))) ≡ []
    go false ih = ih
    go true ih = ap (λ (b : Bool). cond b (a ∷ filter (lower k) (filter t (range_with_len (a + 1) n))) (filter (lower k) (filter t (range_with_len (a + 1) n)))) no ∙ ih

pub by_lower : {A : Type 0} (f : ℕ → A) (d : A) (t : ℕ → Bool) (a n k : ℕ) → a ≤ k → k < a + n → t k ≡ true →
    slice_index_or (map f (filter t (range_with_len a n))) (length (filter (lower k) (filter t (range_with_len a n)))) d ≡ f k
by_lower f d t a zero k low high passes = absurd (omega arith)
by_lower {A} f d t a (suc n) k low high passes =
    ⊎_elim (λ (e : a ≡ k). here e) (λ ne. later (omega arith) (by_lower f d t (a + 1) n k (omega arith) (omega arith) passes)) (cases_eq a k)
  where
    rest : List ℕ
    rest = filter t (range_with_len (a + 1) n)

    at : List ℕ → A
    at xs = slice_index_or (map f xs) (length (filter (lower k) xs)) d

    here : a ≡ k → at (cond (t a) (a ∷ rest) rest) ≡ f k
    here e =
        let keeps : t a ≡ true = ap t e ∙ passes in
        let not_lower : nat_lt a k ≡ false = false_from_ne_true (nat_lt a k) (λ b. let g = ltb-true a k b in omega (arith, g, e)) in
        ap (λ (b : Bool). at (cond b (a ∷ rest) rest)) keeps
        ∙ (ap (λ (b : Bool). slice_index_or (map f (a ∷ rest)) (length (cond b (a ∷ filter (lower k) rest) (filter (lower k) rest))) d) not_lower
        ∙ (ap (λ (xs : List ℕ). slice_index_or (map f (a ∷ rest)) (length xs) d) (none_lower t (a + 1) n k (omega (arith, e))) ∙ ap f e))

    later : a < k → at rest ≡ f k → at (cond (t a) (a ∷ rest) rest) ≡ f k
    later less ih = go (t a)
      where
        go : (b : Bool) → at (cond b (a ∷ rest) rest) ≡ f k
        go false = ih
        go true = ap (λ (b : Bool). slice_index_or (map f (a ∷ rest)) (length (cond b (a ∷ filter (lower k) rest) (filter (lower k) rest))) d) (lt-ltb a k less) ∙ ih

-- ---- by how many earlier items pass

pub by_count : {A X : Type 0} (f : ℕ → A) (d : A) (test : X → Bool) (e : X) (t : ℕ → Bool) (xs : List X) (n a k : ℕ) → length xs ≡ n →
    ((j : ℕ) → j < n → t (a + j) ≡ test (slice_index_or xs j e)) → k < n → t (a + k) ≡ true →
    slice_index_or (map f (filter t (range_with_len a n))) (count_by test (take k xs)) d ≡ f (a + k)
by_count f d test e t [] n a k long same below passes = absurd (omega arith)
by_count f d test e t (x ∷ xs) zero a k long same below passes = absurd (omega arith)
by_count f d test e t (x ∷ xs) (suc n) a zero long same below passes =
    let is : a + 0 ≡ a = omega arith in
    let keeps : t a ≡ true = ap t (sym is) ∙ passes in
    let rest = filter t (range_with_len (a + 1) n) in
    ap (λ (b : Bool). slice_index_or (map f (cond b (a ∷ rest) rest)) 0 d) keeps ∙ ap f (sym is)
by_count {A} {X} f d test e t (x ∷ xs) (suc n) a (suc k) long same below passes =
    let moved : (j : ℕ) → (a + 1) + j ≡ a + suc j = λ j. omega arith in
    let ih = by_count f d test e t xs n (a + 1) k (omega arith) (λ j h. ap t (moved j) ∙ same (suc j) (omega arith)) (omega arith) (ap t (moved k) ∙ passes) in
    let first : t a ≡ test x = (let is : a ≡ a + 0 = omega arith in ap t is) ∙ same zero (omega arith) in
    step (t a) (test x) (count_by test (x ∷ take k xs)) first (sum_by-cons (λ (y : X). cond (test y) 1 0) x (take k xs)) ih ∙ ap f (moved k)
  where
    rest : List ℕ
    rest = filter t (range_with_len (a + 1) n)

    before : ℕ
    before = count_by test (take k xs)

    step : (b c : Bool) (i : ℕ) → b ≡ c → i ≡ cond c 1 0 + before → slice_index_or (map f rest) before d ≡ f ((a + 1) + k) → slice_index_or (map f (cond b (a ∷ rest) rest)) i d ≡ f ((a + 1) + k)
    step true true i is at ih = let one : i ≡ suc before = omega arith in ap (λ (k : ℕ). slice_index_or (map f (a ∷ rest)) k d) one ∙ ih
    step false false i is at ih = let none : i ≡ before = omega arith in ap (λ (k : ℕ). slice_index_or (map f rest) k d) none ∙ ih
    step true false i is at ih = absurd (false≢true (sym is))
    step false true i is at ih = absurd (false≢true is)

-- ---- configs and lists

pub config_there : (m : Meaning) (r : ℕ) → is_managed m.site.policy r ≡ true → config_of m.site.policy (written_configs m) r ≡ written_config m r
config_there m r managed =
    let p = m.site.policy in
    let is : 0 + r ≡ r = omega arith in
    by_count (written_config m) no_config (λ (x : Router). is_some x.device) no_router (is_managed p) p.routers (length p.routers) 0 r refl
    (λ j h. let same : 0 + j ≡ j = omega arith in ap (is_managed p) same) (managed_is_there p r managed) (ap (is_managed p) is ∙ managed)
    ∙ ap (written_config m) is

pub list_there : (m : Meaning) (i : ℕ) → i < length m.site.policy.ifaces → is_managed m.site.policy (router_at m.site.policy i) ≡ true → list_in m.site.policy (written_configs m) i ≡ written_lines m i
list_there m i below managed =
    let p = m.site.policy in
    let r = router_at p i in
    ap (λ (c : Config). slice_index_or c.lists (length (filter (λ j. nat_lt j i) (ifaces_of p r))) []) (config_there m r managed)
    ∙ by_lower (written_lines m) [] (λ j. router_at p j == r) 0 (length p.ifaces) i (omega arith) (omega arith) (eq-eqb r r refl)
