-- The greatest number that passes a test.
use Rattle.std.proofs.Common.{◌≡◌, ℕ, zero, suc, ◌+◌, ◌<◌, ◌≤◌, Bool, true, false, not, cond, ◌&&◌, ◌||◌, List, [], ◌∷◌, length, take, reverse, get_or, refl, sym, ap, subst, ◌∙◌, ⊎_elim, arith}
use Rattle.std.specs.Prelude.{Option, Some, None, is_some, nat_lt}
use Rattle.std.specs.List.{list_any}
use Rattle.std.proofs.lemmas.Bool.{lt-ltb, false_from_ne_true, ltb-true, false≢true, cases_lt}
use Rattle.std.proofs.lemmas.List.{take_more, reverse-append}
use Rattle.std.proofs.lemmas.List.Folds.{list_any_more}
use Rattle.policy_model.specs.Filters.{Line, line_covers, line_meets, deny_all}
use Rattle.policy_model.specs.Optimised.{same_action, is_repeated}
use Rattle.local_optimise.specs.Chained.{greatest, later}
use Rattle.local_optimise.specs.Keys.{is_cover}
use Rattle.local_optimise.specs.Held.{line_at, is_across, is_nearer}

pub greatest_same : (p q : ℕ → Bool) (n : ℕ) → ((i : ℕ) → i < n → p i ≡ q i) → greatest p n ≡ greatest q n
greatest_same p q zero h = refl
greatest_same p q (suc n) h =
    ap (λ b. cond b (Some n) (greatest p n)) (h n (omega arith)) ∙ ap (λ r. cond (q n) (Some n) r) (greatest_same p q n (λ i lt. h i (omega (arith, lt))))

pub record Passing (p : ℕ → Bool) (n i : ℕ) : Type 0 where
  pub below : i < n
  pub passes : p i ≡ true

pub some_same : (x y : ℕ) → Some x ≡ Some y → x ≡ y
some_same x y e = cc

pub greatest_passes : (p : ℕ → Bool) (n i : ℕ) → greatest p n ≡ Some i → Passing p n i
greatest_passes p zero i e = absurd (cc)
greatest_passes p (suc n) i e = by (p n) refl e (greatest_passes p n i)
  where
    by : (b : Bool) → p n ≡ b → cond b (Some n) (greatest p n) ≡ Some i → (greatest p n ≡ Some i → Passing p n i) → Passing p (suc n) i
    by true t f ih = let s : n ≡ i = some_same n i f in record { below = omega (arith, s); passes = ap p (sym s) ∙ t }
    by false t f ih = let w = ih f in record { below = omega (arith, w.below); passes = w.passes }

-- where the greatest that passes the first test fails the second, the search goes on below it
abbrev pub found_from : (ℕ → Bool) → (ℕ → Bool) → Option ℕ → Option ℕ
found_from p q None = None
found_from p q (Some i) = cond (q i) (Some i) (greatest (λ j. p j && q j) i)

pub greatest_of_both : (p q : ℕ → Bool) (n : ℕ) → greatest (λ j. p j && q j) n ≡ found_from p q (greatest p n)
greatest_of_both p q zero = refl
greatest_of_both p q (suc n) = by (p n) (greatest_of_both p q n)
  where
    by : (b : Bool) → greatest (λ j. p j && q j) n ≡ found_from p q (greatest p n) → cond (b && q n) (Some n) (greatest (λ j. p j && q j) n) ≡ found_from p q (cond b (Some n) (greatest p n))
    by true ih = refl
    by false ih = ih

not_before : (m n : ℕ) → n ≤ m → nat_lt m n ≡ false
not_before m n le = false_from_ne_true (nat_lt m n) (λ t. let h = ltb-true m n t in omega (arith, h, le))

later_first : (n : ℕ) (o : Option ℕ) → ((i : ℕ) → o ≡ Some i → i ≤ n) → Some n ≡ later (Some n) o
later_first n None h = refl
later_first n (Some i) h = sym (ap (λ b. cond b (Some i) (Some n)) (not_before n i (h i refl)))

later_second : (n : ℕ) (o : Option ℕ) → ((i : ℕ) → o ≡ Some i → i < n) → Some n ≡ later o (Some n)
later_second n None h = refl
later_second n (Some i) h = sym (ap (λ b. cond b (Some n) (Some i)) (lt-ltb i n (h i refl)))

pub greatest_of_either : (p q : ℕ → Bool) (n : ℕ) → greatest (λ j. p j || q j) n ≡ later (greatest p n) (greatest q n)
greatest_of_either p q zero = refl
greatest_of_either p q (suc n) = by (p n) (q n) (greatest_of_either p q n)
  where
    by : (b c : Bool) → greatest (λ j. p j || q j) n ≡ later (greatest p n) (greatest q n) → cond (b || c) (Some n) (greatest (λ j. p j || q j) n) ≡ later (cond b (Some n) (greatest p n)) (cond c (Some n) (greatest q n))
    by true true ih = later_first n (Some n) (λ i e. let s : n ≡ i = some_same n i e in omega (arith, s))
    by true false ih = later_first n (greatest q n) (λ i e. let w = greatest_passes q n i e in omega (arith, w.below))
    by false true ih = later_second n (greatest p n) (λ i e. (greatest_passes p n i e).below)
    by false false ih = ih

-- ---- lists by places

suc_is : (n : ℕ) → suc n ≡ n + 1
suc_is n = omega arith

one_more : {A : Type 0} (t : A → Bool) (xs : List A) (d : A) (n : ℕ) (b : Bool) (o : Option ℕ) → list_any t (take n xs) ≡ is_some o → (list_any t (take n xs) || b) ≡ is_some (cond b (Some n) o)
one_more t xs d n true o e = or_true (list_any t (take n xs))
  where
    or_true : (c : Bool) → (c || true) ≡ true
    or_true true = refl
    or_true false = refl
one_more t xs d n false o e = or_false (list_any t (take n xs)) ∙ e
  where
    or_false : (c : Bool) → (c || false) ≡ c
    or_false true = refl
    or_false false = refl

-- some of the first elements pass where there is a greatest place that passes
pub any_by_place : {A : Type 0} (t : A → Bool) (xs : List A) (d : A) (n : ℕ) → n ≤ length xs → list_any t (take n xs) ≡ is_some (greatest (λ i. t (get_or xs i d)) n)
any_by_place t xs d zero le = refl
any_by_place t xs d (suc n) le =
    ap (λ k. list_any t (take k xs)) (suc_is n) ∙ (list_any_more t xs n d (omega (arith, le))
    ∙ one_more t xs d n (t (get_or xs n d)) (greatest (λ i. t (get_or xs i d)) n) (any_by_place t xs d n (omega (arith, le))))

nearer_than_all : (n : ℕ) (o : Option ℕ) → ((i : ℕ) → o ≡ Some i → i < n) → true ≡ is_nearer (Some n) o
nearer_than_all n None h = refl
nearer_than_all n (Some i) h = sym (lt-ltb i n (h i refl))

farther_than_all : (n : ℕ) (o : Option ℕ) → ((i : ℕ) → o ≡ Some i → i < n) → false ≡ is_nearer o (Some n)
farther_than_all n None h = refl
farther_than_all n (Some i) h = let lt = h i refl in sym (not_before n i (omega (arith, lt)))

-- One line more below decides, or leaves it to the others.
repeated_step : (n : ℕ) (cover across : Option ℕ) (r s c m : Bool) → r ≡ is_nearer cover across → ((i : ℕ) → cover ≡ Some i → i < n) → ((i : ℕ) → across ≡ Some i → i < n) →
    cond s (c || r) (not m && r) ≡ is_nearer (cond (s && c) (Some n) cover) (cond (not s && m) (Some n) across)
repeated_step n cover across r true true m e f g = nearer_than_all n across g
repeated_step n cover across r true false m e f g = e
repeated_step n cover across r false c true e f g = farther_than_all n cover f
repeated_step n cover across r false c false e f g = e

-- A line is repeated where the last line below that covers it with its action comes later than the last one across.
pub repeated_by_place : (l : Line) (lines : List Line) (n : ℕ) → n ≤ length lines →
    is_repeated l (reverse (take n lines)) ≡ is_nearer (greatest (λ i. is_cover false l (line_at lines i)) n) (greatest (λ i. is_across l (line_at lines i)) n)
repeated_by_place l lines zero le = refl
repeated_by_place l lines (suc n) le =
    let x = get_or lines n deny_all in
    let cover = greatest (λ i. is_cover false l (line_at lines i)) n in
    let across = greatest (λ i. is_across l (line_at lines i)) n in
    ap (λ k. is_repeated l (reverse (take k lines))) (suc_is n)
    ∙ (ap (λ ls. is_repeated l (reverse ls)) (take_more lines n deny_all (omega (arith, le)))
    ∙ (ap (is_repeated l) (reverse-append (take n lines) (x ∷ []))
    ∙ repeated_step n cover across (is_repeated l (reverse (take n lines))) (same_action l.permit x.permit) (line_covers x l) (line_meets x l)
    (repeated_by_place l lines n (omega (arith, le)))
    (λ i e. (greatest_passes (λ i. is_cover false l (line_at lines i)) n i e).below)
    (λ i e. (greatest_passes (λ i. is_across l (line_at lines i)) n i e).below)))

-- for a measure: how many places there are up to this one
abbrev pub steps_left : Option ℕ → ℕ
steps_left None = 0
steps_left (Some i) = suc i

pub greatest_here : (p : ℕ → Bool) (n i : ℕ) → n ≡ suc i → p i ≡ true → greatest p n ≡ Some i
greatest_here p n i e t = ap (greatest p) e ∙ ap (λ b. cond b (Some i) (greatest p i)) t

pub greatest_of_none : (n : ℕ) → greatest (λ j. false) n ≡ None
greatest_of_none zero = refl
greatest_of_none (suc n) = greatest_of_none n

ap_less : (a b c : ℕ) → b ≡ c → a < b → a < c
ap_less a b c e lt = subst (λ n. a < n) e lt

pub fewer_steps : (o p : Option ℕ) (i : ℕ) → o ≡ Some i → ((j : ℕ) → p ≡ Some j → j < i) → steps_left p < steps_left o
fewer_steps o None i e h = ap_less 0 (suc i) (steps_left o) (sym (ap steps_left e)) (omega arith)
fewer_steps o (Some j) i e h = let lt = h j refl in ap_less (suc j) (suc i) (steps_left o) (sym (ap steps_left e)) (omega (arith, lt))

pub record AtLeast (p : ℕ → Bool) (n i : ℕ) : Type 0 where
  pub place : ℕ
  pub is : greatest p n ≡ Some place
  pub least : i ≤ place

pub greatest_at_least : (p : ℕ → Bool) (n i : ℕ) → i < n → p i ≡ true → AtLeast p n i
greatest_at_least p zero i lt t = absurd (omega (arith, lt))
greatest_at_least p (suc n) i lt t = by (p n) refl (greatest_at_least p n i)
  where
    by : (b : Bool) → p n ≡ b → (i < n → p i ≡ true → AtLeast p n i) → AtLeast p (suc n) i
    by true e ih = record { place = n; is = ap (λ b. cond b (Some n) (greatest p n)) e; least = omega (arith, lt) }
    by false e ih = ⊎_elim
        (λ (lo : i < n). let w = ih lo t in record { place = w.place; is = ap (λ b. cond b (Some n) (greatest p n)) e ∙ w.is; least = w.least })
        (λ (hi : n ≤ i). let at : i ≡ n = omega (arith, hi, lt) in absurd (false≢true (sym e ∙ (ap p (sym at) ∙ t))))
        (cases_lt i n)
