-- Numbers and addresses are read exactly.
use Rattle.std.proofs.Common.{◌≡◌, ◌⊎◌, inl, inr, ◌∙◌, refl, sym, ap, subst, ℕ, suc, ◌+◌, ◌-◌, ◌*◌, ◌/◌, ◌%◌, ◌^◌, ◌<◌, ◌≤◌, eqb, ltb, leb, Bool, true, false, not, cond, ◌&&◌, List, [], ◌∷◌, ◌++◌, length, get_or, take, drop, arith, rules, decimal, fold, Option, Some, None, option_and_then, option_map}
use Rattle.std.specs.List.{list_all}
use Rattle.std.proofs.lemmas.Fmt.{decimal_is_IsNumeral, decimal-digits_value, digits_decimal, digits_value-decimal, length-decimal-le, decimal_digit, first_decimal}
use Rattle.std.proofs.lemmas.Str.Parse.{IsNumeralModel, numerals_by_fold, digits_value_short}
use Rattle.std.proofs.lemmas.Bool.{and_parts, and_from, not-true, cond-true, cond-false, lt-ltb, le-ltb, ltb-true, ltb-false, eqb-true, ne_eqb, eq-eqb, le-leb, leb-true, cases_eq, both_ways}
use Rattle.std.proofs.lemmas.Option.{none-some, same_Some}
use Rattle.policy_model.specs.Lists.{is_nothing}
use Rattle.device_lines.specs.Numbers.{is_digit, has_leading_zero, is_number, value_of, number_of, at_most, number_to, cut_at, address_from, address_of}
use Rattle.std.specs.List.{position_or_len}
use Rattle.device_reading.specs.Grammar.{Lacks}
use Rattle.text_laws.proofs.Pieces.{lacks_below}
use Rattle.text_laws.proofs.Numerals.{decimal_between, dotted_right}
use Rattle.acl_print.specs.Words.{dotted}

abbrev value_after : ℕ → List ℕ → ℕ
value_after n digits = fold (λ m b. 10 * m + (b - 48)) n digits

own : IsNumeralModel (λ ds. list_all is_digit ds ≡ true) (value_after 0)
own = numerals_by_fold (λ ds. list_all is_digit ds ≡ true) (search rules) value_after (search rules)

no_zero_first : (n : ℕ) → n < 2 ^ 64 → has_leading_zero (decimal n) ≡ false
no_zero_first n h = by (cases_eq n 0)
  where
    begins : (text : List ℕ) → 48 < get_or text 0 0 → has_leading_zero text ≡ false
    begins [] l = refl
    begins (b ∷ []) l = refl
    begins (b ∷ c ∷ rest) l = ne_eqb b 48 (λ e. omega (arith, e, l))

    by : (n ≡ 0) ⊎ (n ≡ 0 → ⊥) → has_leading_zero (decimal n) ≡ false
    by (inl e) = ap (λ m. has_leading_zero (decimal m)) e ∙ ap has_leading_zero (decimal_digit 0 (omega arith))
    by (inr f) = begins (decimal n) (first_decimal n (omega (arith, f)) h)

some_there : (text : List ℕ) → 0 < length text → not (is_nothing text) ≡ true
some_there [] h = absurd (omega (arith, h))
some_there (b ∷ text) h = refl

there_some : (text : List ℕ) → not (is_nothing text) ≡ true → 0 < length text
there_some [] e = absurd (both_ways false refl e)
there_some (b ∷ text) e = omega arith

-- a number of at most five digits is read as itself
pub number_back : (n : ℕ) → n < 100000 → number_of (decimal n) ≡ Some n
number_back n h =
    let small : n < 2 ^ 64 = omega arith in
    let some = some_there (decimal n) (decimal_is_IsNumeral n small).0.0 in
    let short = le-leb (length (decimal n)) 5 (length-decimal-le 5 n (omega arith) (omega arith) small) in
    let digits = digits_decimal own n small in
    let plain = ap not (no_zero_first n small) in
    let all : is_number (decimal n) ≡ true = and_from _ _ (and_from _ _ (and_from _ _ some short) digits) plain in
    cond-true (is_number (decimal n)) (Some (value_of (decimal n))) None all ∙ ap Some (digits_value-decimal own n small)

one_zero : (text : List ℕ) → has_leading_zero text ≡ false → get_or text 0 0 ≡ 48 → 0 < length text → length text ≡ 1
one_zero [] h e l = absurd (omega (arith, l))
one_zero (b ∷ []) h e l = omega arith
one_zero (b ∷ c ∷ rest) h e l = absurd (both_ways (eqb b 48) h (eq-eqb b 48 e))

below : (text : List ℕ) → list_all is_digit text ≡ true → length text ≤ 5 → value_of text < 2 ^ 64
below text h l = let w = digits_value_short own text 5 h l in omega (arith, w)

-- and what is read as a number is its text
pub number_there : (text : List ℕ) (n : ℕ) → number_of text ≡ Some n → text ≡ decimal n
number_there text n e = by (is_number text) refl e
  where
    by : (b : Bool) → is_number text ≡ b → cond b (Some (value_of text)) None ≡ Some n → text ≡ decimal n
    by true h e =
        let a = and_parts (not (is_nothing text) && leb (length text) 5 && list_all is_digit text) (not (has_leading_zero text)) h in
        let b = and_parts (not (is_nothing text) && leb (length text) 5) (list_all is_digit text) a.0 in
        let c = and_parts (not (is_nothing text)) (leb (length text) 5) b.0 in
        let long = there_some text c.0 in
        sym (decimal-digits_value own text b.1 long (λ f. one_zero text (not-true (has_leading_zero text) a.1) f long) (below text b.1 (leb-true (length text) 5 c.1)))
        ∙ ap decimal (same_Some (value_of text) n e)
    by false h e = absurd (none-some n e)

-- ---- numbers up to a bound

pub bounded_back : (most n : ℕ) → most < 100000 → n ≤ most → number_to most (decimal n) ≡ Some n
bounded_back most n m h = ap (option_and_then (at_most most)) (number_back n (omega arith)) ∙ cond-true (leb n most) (Some n) None (le-leb n most h)

pub record IsBounded (most : ℕ) (text : List ℕ) (n : ℕ) : Type 0 where
  pub spelled : text ≡ decimal n
  pub low : n ≤ most

pub bounded_there : (most n : ℕ) (text : List ℕ) → number_to most text ≡ Some n → IsBounded most text n
bounded_there most n text e = by (number_of text) refl e
  where
    fits : (m : ℕ) → number_of text ≡ Some m → (b : Bool) → leb m most ≡ b → cond b (Some m) None ≡ Some n → IsBounded most text n
    fits m f true g e =
        let same = same_Some m n e in
        record { spelled = number_there text m f ∙ ap decimal same; low = subst (λ x. x ≤ most) same (leb-true m most g) }
    fits m f false g e = absurd (none-some n e)

    by : (o : Option ℕ) → number_of text ≡ o → option_and_then (at_most most) o ≡ Some n → IsBounded most text n
    by None f e = absurd (none-some n e)
    by (Some m) f e = fits m f (leb m most) refl e

-- ---- cuts

-- what stands before a place, and behind it
abbrev around : List ℕ → ℕ → List ℕ × List ℕ
around text i = (take i text, drop (i + 1) text)

abbrev longer : ℕ → List ℕ × List ℕ → List ℕ × List ℕ
longer c w = (c ∷ w.0, w.1)

-- the same, byte by byte
abbrev cut : ℕ → List ℕ → Option (List ℕ × List ℕ)
cut b [] = None
cut b (c ∷ text) = cond (eqb c b) (Some ([], text)) (option_map (longer c) (cut b text))

place : ℕ → ℕ → Option ℕ
place at len = cond (ltb at len) (Some at) None

at_first : (c : ℕ) (text : List ℕ) → option_map (around (c ∷ text)) (cond (ltb 0 (suc (length text))) (Some 0) None) ≡ Some ([], text)
at_first c text = ap (λ t. option_map (around (c ∷ text)) (cond t (Some 0) None)) (lt-ltb 0 (suc (length text)) (omega arith))

one_later : (c : ℕ) (text : List ℕ) (at : ℕ) → around (c ∷ text) (1 + at) ≡ longer c (around text at)
one_later c text at =
    let e : 1 + at ≡ suc at = omega arith in
    let f : 1 + at + 1 ≡ suc (at + 1) = omega arith in
    λ i. (take (e i) (c ∷ text), drop (f i) (c ∷ text))

at_later : (c at : ℕ) (text : List ℕ) (t : Bool) → ltb at (length text) ≡ t →
    option_map (around (c ∷ text)) (cond (ltb (1 + at) (suc (length text))) (Some (1 + at)) None) ≡ option_map (longer c) (option_map (around text) (cond t (Some at) None))
at_later c at text true e =
    ap (λ t. option_map (around (c ∷ text)) (cond t (Some (1 + at)) None)) (lt-ltb (1 + at) (suc (length text)) (let l = ltb-true at (length text) e in omega (arith, l)))
    ∙ ap Some (one_later c text at)
at_later c at text false e =
    ap (λ t. option_map (around (c ∷ text)) (cond t (Some (1 + at)) None)) (le-ltb (1 + at) (suc (length text)) (let l = ltb-false at (length text) e in omega (arith, l)))

same_cut : (b : ℕ) (text : List ℕ) → cut_at b text ≡ cut b text
same_cut b [] = refl
same_cut b (c ∷ text) = by (eqb c b) (ltb at (length text)) refl (same_cut b text)
  where
    at : ℕ
    at = position_or_len (λ x. eqb x b) text

    by : (d t : Bool) → ltb at (length text) ≡ t → option_map (around text) (cond (ltb at (length text)) (Some at) None) ≡ cut b text →
        option_map (around (c ∷ text)) (cond (ltb (cond (not d) (1 + at) 0) (suc (length text))) (Some (cond (not d) (1 + at) 0)) None) ≡ cond d (Some ([], text)) (option_map (longer c) (cut b text))
    by true t e f = at_first c text
    by false t e f = at_later c at text t e ∙ ap (λ t. option_map (longer c) (option_map (around text) (cond t (Some at) None))) (sym e) ∙ ap (option_map (longer c)) f

pub cut_back : (b : ℕ) (t u : List ℕ) → Lacks b t → cut_at b (t ++ b ∷ u) ≡ Some (t, u)
cut_back b t u h = same_cut b (t ++ b ∷ u) ∙ by t h
  where
    by : (t : List ℕ) → Lacks b t → cut b (t ++ b ∷ u) ≡ Some (t, u)
    by [] h = cond-true (eqb b b) (Some ([], u)) (option_map (longer b) (cut b u)) (eq-eqb b b refl)
    by (c ∷ t) h = cond-false (eqb c b) (Some ([], t ++ b ∷ u)) (option_map (longer c) (cut b (t ++ b ∷ u))) h.0 ∙ ap (option_map (longer c)) (by t h.1)

pub cut_there : (b : ℕ) (text : List ℕ) (w : List ℕ × List ℕ) → cut_at b text ≡ Some w → text ≡ w.0 ++ b ∷ w.1
cut_there b text w e = by text w (sym (same_cut b text) ∙ e)
  where
    by : (text : List ℕ) (w : List ℕ × List ℕ) → cut b text ≡ Some w → text ≡ w.0 ++ b ∷ w.1
    by [] w e = absurd (none-some w e)
    by (c ∷ text) w e = split (eqb c b) refl (cut b text) refl e (by text)
      where
        split : (d : Bool) → eqb c b ≡ d → (o : Option (List ℕ × List ℕ)) → cut b text ≡ o → cond d (Some ([], text)) (option_map (longer c) o) ≡ Some w →
            ((w : List ℕ × List ℕ) → cut b text ≡ Some w → text ≡ w.0 ++ b ∷ w.1) → c ∷ text ≡ w.0 ++ b ∷ w.1
        split true f o g e ih = let same = same_Some ([], text) w e in (λ i. eqb-true c b f i ∷ text) ∙ ap (λ (v : List ℕ × List ℕ). v.0 ++ b ∷ v.1) same
        split false f None g e ih = absurd (none-some w e)
        split false f (Some v) g e ih = let same = same_Some (longer c v) w e in ap (λ t. c ∷ t) (ih v g) ∙ ap (λ (v : List ℕ × List ℕ). v.0 ++ b ∷ v.1) same

-- ---- addresses

pub some_then : {A B : Type 0} (f : A → Option B) (o : Option A) (y : B) → option_and_then f o ≡ Some y → (x : A) × (o ≡ Some x) × (f x ≡ Some y)
some_then f None y e = absurd (none-some y e)
some_then f (Some x) y e = (x, refl, e)

pub some_map : {A B : Type 0} (f : A → B) (o : Option A) (y : B) → option_map f o ≡ Some y → (x : A) × (o ≡ Some x) × (f x ≡ y)
some_map f None y e = absurd (none-some y e)
some_map f (Some x) y e = (x, refl, same_Some (f x) y e)

abbrev joined_of : List ℕ → List ℕ → List ℕ → List ℕ → Option ℕ
joined_of first second third fourth =
    option_and_then (λ a. option_and_then (λ b. option_and_then (λ c. option_map (λ d. address_from a b c d) (number_to 255 fourth)) (number_to 255 third)) (number_to 255 second)) (number_to 255 first)

abbrev third_step : List ℕ → List ℕ → List ℕ → Option ℕ
third_step first second rest = option_and_then (λ (w : List ℕ × List ℕ). joined_of first second w.0 w.1) (cut_at 46 rest)

abbrev second_step : List ℕ → List ℕ → Option ℕ
second_step first rest = option_and_then (λ (w : List ℕ × List ℕ). third_step first w.0 w.1) (cut_at 46 rest)

no_dot : (n : ℕ) → n < 2 ^ 64 → Lacks 46 (decimal n)
no_dot n h = lacks_below 48 57 46 (omega arith) (decimal n) (decimal_between n h)

pub address_back : (a : ℕ) → a < 2 ^ 32 → address_of (dotted a) ≡ Some a
address_back a h =
    let p = a / 16777216 in
    let q = a / 65536 % 256 in
    let r = a / 256 % 256 in
    let s = a % 256 in
    let A = decimal p in
    let B = decimal q in
    let C = decimal r in
    let D = decimal s in
    let whole : address_from p q r s ≡ a = omega arith in
    ap address_of (dotted_right a h)
    ∙ ap (option_and_then (λ (w : List ℕ × List ℕ). second_step w.0 w.1)) (cut_back 46 A (B ++ 46 ∷ (C ++ 46 ∷ D)) (no_dot p (omega arith)))
    ∙ ap (option_and_then (λ (w : List ℕ × List ℕ). third_step A w.0 w.1)) (cut_back 46 B (C ++ 46 ∷ D) (no_dot q (omega arith)))
    ∙ ap (option_and_then (λ (w : List ℕ × List ℕ). joined_of A B w.0 w.1)) (cut_back 46 C D (no_dot r (omega arith)))
    ∙ ap (option_and_then (λ a. option_and_then (λ b. option_and_then (λ c. option_map (λ d. address_from a b c d) (number_to 255 D)) (number_to 255 C)) (number_to 255 B))) (bounded_back 255 p (omega arith) (omega arith))
    ∙ ap (option_and_then (λ b. option_and_then (λ c. option_map (λ d. address_from p b c d) (number_to 255 D)) (number_to 255 C))) (bounded_back 255 q (omega arith) (omega arith))
    ∙ ap (option_and_then (λ c. option_map (λ d. address_from p q c d) (number_to 255 D))) (bounded_back 255 r (omega arith) (omega arith))
    ∙ ap (option_map (λ d. address_from p q r d)) (bounded_back 255 s (omega arith) (omega arith))
    ∙ ap Some whole

-- the address and its text
pub record IsAddress (text : List ℕ) (a : ℕ) : Type 0 where
  pub spelled : text ≡ dotted a
  pub low : a < 2 ^ 32

whole_address : (text : List ℕ) (a p q r s : ℕ) → text ≡ decimal p ++ 46 ∷ (decimal q ++ 46 ∷ (decimal r ++ 46 ∷ decimal s)) → p ≤ 255 → q ≤ 255 → r ≤ 255 → s ≤ 255 → address_from p q r s ≡ a → IsAddress text a
whole_address text a p q r s e hp hq hr hs f =
    let low : a < 2 ^ 32 = omega (arith, f) in
    let ep : p ≡ a / 16777216 = omega (arith, f) in
    let eq : q ≡ a / 65536 % 256 = omega (arith, f) in
    let er : r ≡ a / 256 % 256 = omega (arith, f) in
    let es : s ≡ a % 256 = omega (arith, f) in
    record { spelled = e ∙ (λ i. decimal (ep i) ++ 46 ∷ (decimal (eq i) ++ 46 ∷ (decimal (er i) ++ 46 ∷ decimal (es i)))) ∙ sym (dotted_right a low); low = low }

pub address_there : (text : List ℕ) (a : ℕ) → address_of text ≡ Some a → IsAddress text a
address_there text a e =
    let x = some_then (λ (w : List ℕ × List ℕ). second_step w.0 w.1) (cut_at 46 text) a e in
    let y = some_then (λ (w : List ℕ × List ℕ). third_step x.0.0 w.0 w.1) (cut_at 46 x.0.1) a x.2 in
    let z = some_then (λ (w : List ℕ × List ℕ). joined_of x.0.0 y.0.0 w.0 w.1) (cut_at 46 y.0.1) a y.2 in
    let p = some_then (λ a. option_and_then (λ b. option_and_then (λ c. option_map (λ d. address_from a b c d) (number_to 255 z.0.1)) (number_to 255 z.0.0)) (number_to 255 y.0.0)) (number_to 255 x.0.0) a z.2 in
    let q = some_then (λ b. option_and_then (λ c. option_map (λ d. address_from p.0 b c d) (number_to 255 z.0.1)) (number_to 255 z.0.0)) (number_to 255 y.0.0) a p.2 in
    let r = some_then (λ c. option_map (λ d. address_from p.0 q.0 c d) (number_to 255 z.0.1)) (number_to 255 z.0.0) a q.2 in
    let s = some_map (λ d. address_from p.0 q.0 r.0 d) (number_to 255 z.0.1) a r.2 in
    let bp = bounded_there 255 p.0 x.0.0 p.1 in
    let bq = bounded_there 255 q.0 y.0.0 q.1 in
    let br = bounded_there 255 r.0 z.0.0 r.1 in
    let bs = bounded_there 255 s.0 z.0.1 s.1 in
    whole_address text a p.0 q.0 r.0 s.0
    (cut_there 46 text x.0 x.1 ∙ (λ i. bp.spelled i ++ 46 ∷ (cut_there 46 x.0.1 y.0 y.1 ∙ (λ j. bq.spelled j ++ 46 ∷ (cut_there 46 y.0.1 z.0 z.1 ∙ (λ k. br.spelled k ++ 46 ∷ bs.spelled k)) j)) i))
    bp.low bq.low br.low bs.low s.2

-- what stands before the first such byte has none
pub cut_lacks : (b : ℕ) (text : List ℕ) (w : List ℕ × List ℕ) → cut_at b text ≡ Some w → Lacks b w.0
cut_lacks b text w e = by text w (sym (same_cut b text) ∙ e)
  where
    by : (text : List ℕ) (w : List ℕ × List ℕ) → cut b text ≡ Some w → Lacks b w.0
    by [] w e = absurd (none-some w e)
    by (c ∷ text) w e = split (eqb c b) refl (cut b text) refl e (by text)
      where
        split : (d : Bool) → eqb c b ≡ d → (o : Option (List ℕ × List ℕ)) → cut b text ≡ o → cond d (Some ([], text)) (option_map (longer c) o) ≡ Some w →
            ((w : List ℕ × List ℕ) → cut b text ≡ Some w → Lacks b w.0) → Lacks b w.0
        split true f o g e ih = subst (λ (v : List ℕ × List ℕ). Lacks b v.0) (same_Some ([], text) w e) tt
        split false f None g e ih = absurd (none-some w e)
        split false f (Some v) g e ih = subst (λ (u : List ℕ × List ℕ). Lacks b u.0) (same_Some (longer c v) w e) (f, ih v g)
