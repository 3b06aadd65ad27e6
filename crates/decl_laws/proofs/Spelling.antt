-- An address has one spelling.
use Rattle.std.proofs.Common.{◌≡◌, ℕ, ◌+◌, ◌-◌, ◌*◌, ◌<◌, ◌≤◌, Bool, true, false, not, cond, ◌&&◌, List, [], ◌∷◌, ◌++◌, length, get_or, take, drop, refl, sym, ap, ◌∙◌, ltb, arith}
use Rattle.std.specs.Prelude.{Option, Some, None, position, option_map, option_and_then, ◌==◌, ◌/◌, ◌%◌, nat_le, fold, if◌then◌else◌}
use Rattle.std.specs.List.{list_all}
use Rattle.std.proofs.lemmas.List.Quantifiers.{position-Some}
use Rattle.std.proofs.lemmas.Option.{none-some, same_Some, cond_some}
use Rattle.std.proofs.lemmas.Bool.{false≢true, and_parts, leb-true, eqb-true, eqb-false, lt-ltb, le-ltb, not-true, cond-true, cond-false}
use Rattle.policy_model.specs.Lists.{is_nothing}
use Rattle.policy_decls.specs.Numbers.{is_digit, has_leading_zero, is_number, value_of, at_most, number_to, cut_by, address_from, address_of}
use Rattle.decl_laws.proofs.Cuts.{cut_at_index}

-- ---- a number up to 255 in decimal digits

abbrev spell : ℕ → List ℕ
spell n = cond (ltb n 10) ((n + 48) ∷ []) (cond (ltb n 100) ((n / 10 + 48) ∷ (n % 10 + 48) ∷ []) ((n / 100 + 48) ∷ (n / 10 % 10 + 48) ∷ (n % 10 + 48) ∷ []))

grows : (n : ℕ) (digits : List ℕ) → n ≤ fold (λ m b. 10 * m + (b - 48)) n digits
grows n [] = omega arith
grows n (b ∷ digits) = let w = grows (10 * n + (b - 48)) digits in omega (arith, w)

record IsDigit (b : ℕ) : Type 0 where
  low : 48 ≤ b
  high : b ≤ 57

digit_from : (b : ℕ) → is_digit b ≡ true → IsDigit b
digit_from b h = let w = and_parts (nat_le 48 b) (nat_le b 57) h in record { low = leb-true 48 b w.0; high = leb-true b 57 w.1 }

-- what a number's text is like
record IsNumeral (text : List ℕ) : Type 0 where
  some : not (is_nothing text) ≡ true
  digits : list_all is_digit text ≡ true
  plain : has_leading_zero text ≡ false

numeral_from : (text : List ℕ) → is_number text ≡ true → IsNumeral text
numeral_from text h =
    let a = and_parts (not (is_nothing text) && nat_le (length text) 5 && list_all is_digit text) (not (has_leading_zero text)) h in
    let b = and_parts (not (is_nothing text) && nat_le (length text) 5) (list_all is_digit text) a.0 in
    let c = and_parts (not (is_nothing text)) (nat_le (length text) 5) b.0 in
    record { some = c.0; digits = b.1; plain = not-true (has_leading_zero text) a.1 }

one_digit : (n a : ℕ) → n + 48 ≡ a → n < 10 → a ∷ [] ≡ spell n
one_digit n a e lt = ap (λ x. x ∷ []) (sym e) ∙ sym (cond-true (ltb n 10) ((n + 48) ∷ []) _ (lt-ltb n 10 lt))

two_digits : (n a b : ℕ) → n / 10 + 48 ≡ a → n % 10 + 48 ≡ b → 10 ≤ n → n < 100 → a ∷ b ∷ [] ≡ spell n
two_digits n a b e f ge lt =
    ap (λ x. x ∷ b ∷ []) (sym e) ∙ ap (λ y. (n / 10 + 48) ∷ y ∷ []) (sym f)
    ∙ sym (cond-false (ltb n 10) ((n + 48) ∷ []) _ (le-ltb n 10 ge) ∙ cond-true (ltb n 100) ((n / 10 + 48) ∷ (n % 10 + 48) ∷ []) _ (lt-ltb n 100 lt))

three_digits : (n a b c : ℕ) → n / 100 + 48 ≡ a → n / 10 % 10 + 48 ≡ b → n % 10 + 48 ≡ c → 100 ≤ n → a ∷ b ∷ c ∷ [] ≡ spell n
three_digits n a b c e f g ge =
    ap (λ x. x ∷ b ∷ c ∷ []) (sym e) ∙ ap (λ y. (n / 100 + 48) ∷ y ∷ c ∷ []) (sym f) ∙ ap (λ z. (n / 100 + 48) ∷ (n / 10 % 10 + 48) ∷ z ∷ []) (sym g)
    ∙ sym (cond-false (ltb n 10) ((n + 48) ∷ []) _ (le-ltb n 10 (omega arith)) ∙ cond-false (ltb n 100) ((n / 10 + 48) ∷ (n % 10 + 48) ∷ []) _ (le-ltb n 100 ge))

spelled : (text : List ℕ) (n : ℕ) → is_number text ≡ true → value_of text ≡ n → n ≤ 255 → text ≡ spell n
spelled [] n h e le = absurd (false≢true h)
spelled (a ∷ []) n h e le =
    let w = numeral_from (a ∷ []) h in
    let x = digit_from a (and_parts (is_digit a) true w.digits).0 in
    one_digit n a (omega (arith, e, x.low)) (omega (arith, e, x.high))
spelled (a ∷ b ∷ []) n h e le =
    let w = numeral_from (a ∷ b ∷ []) h in
    let d = and_parts (is_digit a) (is_digit b && true) w.digits in
    let x = digit_from a d.0 in
    let y = digit_from b (and_parts (is_digit b) true d.1).0 in
    let ne = eqb-false a 48 w.plain in
    let v : n ≡ 10 * (a - 48) + (b - 48) = omega (arith, e) in
    two_digits n a b (omega (arith, v, x.low, y.low, y.high)) (omega (arith, v, x.low, y.low, y.high)) (omega (arith, v, ne, x.low)) (omega (arith, v, x.high, y.high))
spelled (a ∷ b ∷ c ∷ []) n h e le =
    let w = numeral_from (a ∷ b ∷ c ∷ []) h in
    let d = and_parts (is_digit a) (is_digit b && (is_digit c && true)) w.digits in
    let f = and_parts (is_digit b) (is_digit c && true) d.1 in
    let x = digit_from a d.0 in
    let y = digit_from b f.0 in
    let z = digit_from c (and_parts (is_digit c) true f.1).0 in
    let ne = eqb-false a 48 w.plain in
    let v : n ≡ 100 * (a - 48) + (10 * (b - 48) + (c - 48)) = omega (arith, e) in
    three_digits n a b c (omega (arith, v, x.low, y.low, y.high, z.low, z.high)) (omega (arith, v, x.low, y.low, y.high, z.low, z.high)) (omega (arith, v, x.low, y.low, y.high, z.low, z.high)) (omega (arith, v, ne, x.low))
spelled (a ∷ b ∷ c ∷ d ∷ rest) n h e le =
    let w = numeral_from (a ∷ b ∷ c ∷ d ∷ rest) h in
    let x = digit_from a (and_parts (is_digit a) (list_all is_digit (b ∷ c ∷ d ∷ rest)) w.digits).0 in
    let ne = eqb-false a 48 w.plain in
    let more = grows (10 * (10 * (10 * (10 * 0 + (a - 48)) + (b - 48)) + (c - 48)) + (d - 48)) rest in
    absurd (omega (arith, e, more, ne, x.low))

-- ---- four of them

record Part (text : List ℕ) (n : ℕ) : Type 0 where
  is : text ≡ spell n
  low : n ≤ 255

part_from : (text : List ℕ) (n : ℕ) → number_to 255 text ≡ Some n → Part text n
part_from text n h = from (is_number text) refl h
  where
    from : (b : Bool) → is_number text ≡ b → option_and_then (at_most 255) (if b then Some (value_of text) else None) ≡ Some n → Part text n
    from true e g =
        let w = cond_some (nat_le (value_of text) 255) (value_of text) n g in
        let le : n ≤ 255 = omega (arith, leb-true (value_of text) 255 w.0, w.1) in
        record { is = spelled text n e w.1 le; low = le }
    from false e g = absurd (none-some n g)

record CutText (b : ℕ) (text : List ℕ) {A : Type 0} (f : List ℕ → List ℕ → Option A) (x : A) : Type 0 where
  first : List ℕ
  rest : List ℕ
  is : text ≡ first ++ b ∷ rest
  then_of : f first rest ≡ Some x

cut_from : (b : ℕ) (text : List ℕ) {A : Type 0} (f : List ℕ → List ℕ → Option A) (x : A) → cut_by b text f ≡ Some x → CutText b text f x
cut_from b text {A} f x h = from (position (λ c. c == b) text) refl h
  where
    from : (o : Option ℕ) → position (λ c. c == b) text ≡ o →
        option_and_then {T = List ℕ × List ℕ} (λ parts. f parts.0 parts.1) (option_map {U = List ℕ × List ℕ} (λ i. (take i text, drop (i + 1) text)) o) ≡ Some x → CutText b text f x
    from None e g = absurd (none-some x g)
    from (Some i) e g =
        let w = position-Some (λ c. c == b) text i 0 e in
        record { first = take i text; rest = drop (i + 1) text; is = cut_at_index text i 0 w.0 ∙ ap (λ c. take i text ++ c ∷ drop (i + 1) text) (eqb-true (get_or text i 0) b w.1); then_of = g }

record FourParts (text : List ℕ) (n : ℕ) : Type 0 where
  a : ℕ
  b : ℕ
  c : ℕ
  d : ℕ
  is : text ≡ spell a ++ 46 ∷ (spell b ++ 46 ∷ (spell c ++ 46 ∷ spell d))
  low_a : a ≤ 255
  low_b : b ≤ 255
  low_c : c ≤ 255
  low_d : d ≤ 255
  sum : address_from a b c d ≡ n

four_values : (r s t u : Option ℕ) (n : ℕ) →
    option_and_then (λ a. option_and_then (λ b. option_and_then (λ c. option_map (λ d. address_from a b c d) u) t) s) r ≡ Some n →
    (a : ℕ) × (b : ℕ) × (c : ℕ) × (d : ℕ) × (r ≡ Some a) × (s ≡ Some b) × (t ≡ Some c) × (u ≡ Some d) × (address_from a b c d ≡ n)
four_values None s t u n h = absurd (none-some n h)
four_values (Some a) None t u n h = absurd (none-some n h)
four_values (Some a) (Some b) None u n h = absurd (none-some n h)
four_values (Some a) (Some b) (Some c) None n h = absurd (none-some n h)
four_values (Some a) (Some b) (Some c) (Some d) n h = (a, b, c, d, refl, refl, refl, refl, same_Some (address_from a b c d) n h)

four_from : (text : List ℕ) (n : ℕ) → address_of text ≡ Some n → FourParts text n
four_from text n h =
    let u = cut_from 46 text _ n h in
    let v = cut_from 46 u.rest _ n u.then_of in
    let w = cut_from 46 v.rest _ n v.then_of in
    let x = four_values (number_to 255 u.first) (number_to 255 v.first) (number_to 255 w.first) (number_to 255 w.rest) n w.then_of in
    let p = part_from u.first x.0 x.4 in
    let q = part_from v.first x.1 x.5 in
    let r = part_from w.first x.2 x.6 in
    let s = part_from w.rest x.3 x.7 in
    record {
      a = x.0;
      b = x.1;
      c = x.2;
      d = x.3;
      is = u.is ∙ ap (λ l. l ++ 46 ∷ u.rest) p.is ∙ ap (λ l. spell x.0 ++ 46 ∷ l) (v.is ∙ ap (λ l. l ++ 46 ∷ v.rest) q.is
          ∙ ap (λ l. spell x.1 ++ 46 ∷ l) (w.is ∙ ap (λ l. l ++ 46 ∷ w.rest) r.is ∙ ap (λ l. spell x.2 ++ 46 ∷ l) s.is));
      low_a = p.low;
      low_b = q.low;
      low_c = r.low;
      low_d = s.low;
      sum = x.8;
    }

pub one_spelling : (text other : List ℕ) (n : ℕ) → address_of text ≡ Some n → address_of other ≡ Some n → text ≡ other
one_spelling text other n h g =
    let v = four_from text n h in
    let w = four_from other n g in
    let a : v.a ≡ w.a = omega (arith, v.sum, w.sum, v.low_b, v.low_c, v.low_d, w.low_b, w.low_c, w.low_d) in
    let b : v.b ≡ w.b = omega (arith, a, v.sum, w.sum, v.low_c, v.low_d, w.low_c, w.low_d) in
    let c : v.c ≡ w.c = omega (arith, a, b, v.sum, w.sum, v.low_d, w.low_d) in
    let d : v.d ≡ w.d = omega (arith, a, b, c, v.sum, w.sum) in
    v.is ∙ ap (λ x. spell x ++ 46 ∷ (spell v.b ++ 46 ∷ (spell v.c ++ 46 ∷ spell v.d))) a ∙ ap (λ x. spell w.a ++ 46 ∷ (spell x ++ 46 ∷ (spell v.c ++ 46 ∷ spell v.d))) b
    ∙ ap (λ x. spell w.a ++ 46 ∷ (spell w.b ++ 46 ∷ (spell x ++ 46 ∷ spell v.d))) c ∙ ap (λ x. spell w.a ++ 46 ∷ (spell w.b ++ 46 ∷ (spell w.c ++ 46 ∷ spell x))) d ∙ sym w.is
