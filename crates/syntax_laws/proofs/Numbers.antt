-- What is written in a form says an address, a prefix, a range, ports or a number.
use Rattle.std.proofs.Common.{◌≡◌, ◌⊎◌, inl, inr, ℕ, ◌+◌, Bool, true, false, cond, not, ◌&&◌, ◌||◌, ◌==◌, List, [], ◌∷◌, ◌++◌, length, take, drop, Option, Some, None, refl, sym, ap, subst, ◌∙◌, arith, true≢false}
use Rattle.std.specs.Prelude.{nat_le, nat_lt, position, option_map, option_and_then, get_or}
use Rattle.std.specs.List.{list_all, position_or_len}
use Rattle.std.proofs.lemmas.List.Quantifiers.{position-Some}
use Rattle.std.proofs.lemmas.Bool.{eqb-true}
use Rattle.std.proofs.Math.Seq.{split_at}
use Rattle.grammar_laws.proofs.Found.{inside, one_behind}
use Rattle.spoc_base.specs.Address.{Cidr}
use Rattle.policy_model.specs.Lists.{is_nothing}
use Rattle.policy_decls.specs.Numbers.{number_of, number_to, at_most, cut_by, address_from, address_of, prefix_of, both, range_of, ends_of, ports_of, two_of, port_pair_of, kind_of, icmp_of}
use Rattle.spoc_parser.specs.Texts.{is_empty, is_digit, is_number, value_of, is_number_to, cut_at, both_pass, are_around, is_octet, is_address, is_prefix, is_range, is_span, is_ports, is_icmp}

-- the option has a value
abbrev pub Has : {A : Type 0} → Option A → Type 0
Has {A} o = (x : A) × (o ≡ Some x)

pub passes_both : (a b : Bool) → a ≡ true → b ≡ true → (a && b) ≡ true
passes_both a b p q = ap (λ x. x && b) p ∙ q

pub both_of : (a b : Bool) → (a && b) ≡ true → (a ≡ true) × (b ≡ true)
both_of true b h = (refl, h)
both_of false b h = absurd (true≢false (sym h))

-- ---- numbers

filled : (text : List ℕ) → not (is_empty text) ≡ true → not (is_nothing text) ≡ true
filled [] h = h
filled (b ∷ bs) h = h

digits_of : (text : List ℕ) → is_number text ≡ true → list_all is_digit text ≡ true
digits_of text h = (both_of (list_all is_digit text) _ (both_of (nat_le (length text) 5) _ (both_of (not (is_empty text)) _ h).1).1).0

pub number_has : (text : List ℕ) → is_number text ≡ true → number_of text ≡ Some (value_of text)
number_has text h =
    let one = both_of (not (is_empty text)) _ h in
    let two = both_of (nat_le (length text) 5) _ one.1 in
    let three = both_of (list_all is_digit text) _ two.1 in
    ap (λ b. cond {A = Option ℕ} b (Some (value_of text)) None)
    (passes_both _ _ (passes_both _ _ (passes_both _ _ (filled text one.0) two.0) three.0) three.1)

number_to_has : (most : ℕ) (text : List ℕ) → is_number_to most text ≡ true → number_to most text ≡ Some (value_of text)
number_to_has most text h =
    let parts = both_of (is_number text) _ h in
    ap (option_and_then (at_most most)) (number_has text parts.0) ∙ ap (λ b. cond {A = Option ℕ} b (Some (value_of text)) None) parts.1

-- ---- what is cut in two

around : (b : ℕ) (before behind : List ℕ → Bool) (text : List ℕ) → are_around b before behind text ≡ true → (parts : List ℕ × List ℕ) × (cut_at b text ≡ Some parts) × (before parts.0 ≡ true) × (behind parts.1 ≡ true)
around b before behind text h = by (cut_at b text) refl h
  where
    by : (o : Option (List ℕ × List ℕ)) → cut_at b text ≡ o → both_pass o before behind ≡ true → (parts : List ℕ × List ℕ) × (cut_at b text ≡ Some parts) × (before parts.0 ≡ true) × (behind parts.1 ≡ true)
    by None is e = absurd (true≢false (sym e))
    by (Some parts) is e = let ok = both_of (before parts.0) (behind parts.1) e in (parts, is, ok.0, ok.1)

cut_then : {A : Type 0} (b : ℕ) (text : List ℕ) (k : List ℕ → List ℕ → Option A) (parts : List ℕ × List ℕ) → cut_at b text ≡ Some parts → cut_by b text k ≡ k parts.0 parts.1
cut_then b text k parts is = ap (option_and_then (λ p. k p.0 p.1)) is

both_have : {A : Type 0} {a b : Option A} {x y : A} → a ≡ Some x → b ≡ Some y → both a b ≡ Some (x, y)
both_have {b = b} {x = x} p q = ap (λ u. both u b) p ∙ ap (λ v. both (Some x) v) q

-- ---- addresses

abbrev four : List ℕ → List ℕ → List ℕ → List ℕ → Option ℕ
four first second third fourth = option_and_then (λ a. option_and_then (λ b. option_and_then (λ c. option_map (λ d. address_from a b c d) (number_to 255 fourth)) (number_to 255 third)) (number_to 255 second)) (number_to 255 first)

pub address_has : (text : List ℕ) → is_address text ≡ true → Has (address_of text)
address_has text h =
    let one = around 46 is_octet (are_around 46 is_octet (are_around 46 is_octet is_octet)) text h in
    let two = around 46 is_octet (are_around 46 is_octet is_octet) one.0.1 one.3 in
    let three = around 46 is_octet is_octet two.0.1 two.3 in (
      address_from (value_of one.0.0) (value_of two.0.0) (value_of three.0.0) (value_of three.0.1),
      cut_then 46 text (λ first rest. cut_by 46 rest (λ second rest. cut_by 46 rest (λ third fourth. four first second third fourth))) one.0 one.1
          ∙ cut_then 46 one.0.1 (λ second rest. cut_by 46 rest (λ third fourth. four one.0.0 second third fourth)) two.0 two.1
          ∙ cut_then 46 two.0.1 (λ third fourth. four one.0.0 two.0.0 third fourth) three.0 three.1
          ∙ λ i. option_and_then (λ a. option_and_then (λ b. option_and_then (λ c. option_map (λ d. address_from a b c d) (number_to_has 255 three.0.1 three.3 i)) (number_to_has 255 three.0.0 three.2 i)) (number_to_has 255 two.0.0 two.2 i)) (number_to_has 255 one.0.0 one.2 i),
    )

abbrev cidr : ℕ → ℕ → Cidr
cidr net len = record { net = net; len = len }

pub prefix_has : (text : List ℕ) → is_prefix text ≡ true → Has (prefix_of text)
prefix_has text h =
    let cut = around 47 is_address (is_number_to 32) text h in
    let net = address_has cut.0.0 cut.2 in (
      cidr net.0 (value_of cut.0.1),
      cut_then 47 text (λ first rest. option_and_then (λ a. option_map (cidr a) (number_to 32 rest)) (address_of first)) cut.0 cut.1
          ∙ λ i. option_and_then (λ a. option_map (cidr a) (number_to_has 32 cut.0.1 cut.3 i)) (net.1 i),
    )

pub range_has : (text : List ℕ) → is_range text ≡ true → Has (range_of text)
range_has text h =
    let cut = around 45 is_address is_address text h in
    let low = address_has cut.0.0 cut.2 in
    let high = address_has cut.0.1 cut.3 in
    ((low.0, high.0), cut_then 45 text (λ first rest. both (address_of first) (address_of rest)) cut.0 cut.1 ∙ both_have low.1 high.1)

-- ---- texts in which a byte does not stand

-- the byte is another one
abbrev is_other : ℕ → ℕ → Bool
is_other b c = not (c == b)

none_stands : (b : ℕ) (text : List ℕ) → list_all (is_other b) text ≡ true → position_or_len (λ c. c == b) text ≡ length text
none_stands b [] h = refl
none_stands b (c ∷ cs) h =
    let parts = both_of (is_other b c) _ h in
    ap (λ v. cond v (1 + position_or_len (λ c. c == b) cs) 0) parts.0 ∙ ap (λ n. 1 + n) (none_stands b cs parts.1) ∙ omega arith

uncut : (b : ℕ) (text : List ℕ) → list_all (is_other b) text ≡ true → cut_at b text ≡ None
uncut b text h =
    ap (λ n. option_map (λ i. (take i text, drop (i + 1) text)) (cond {A = Option ℕ} (nat_lt n (length text)) (Some n) None)) (none_stands b text h)
    ∙ ap (λ v. option_map (λ i. (take i text, drop (i + 1) text)) (cond {A = Option ℕ} v (Some (length text)) None)) (not_below (length text))
  where
    not_below : (n : ℕ) → nat_lt n n ≡ false
    not_below n = grind arith

other_bytes : (test : ℕ → Bool) (b : ℕ) → test b ≡ false → (text : List ℕ) → list_all test text ≡ true → list_all (is_other b) text ≡ true
other_bytes test b fails [] h = refl
other_bytes test b fails (c ∷ cs) h =
    let parts = both_of (test c) _ h in
    passes_both _ _ (by (c == b) refl parts.0) (other_bytes test b fails cs parts.1)
  where
    by : (v : Bool) → (c == b) ≡ v → test c ≡ true → not v ≡ true
    by false is ok = refl
    by true is ok = absurd (true≢false (sym ok ∙ ap test (eqb-true c b is) ∙ fails))

others_around : (b : ℕ) (xs : List ℕ) (c : ℕ) (ys : List ℕ) → list_all (is_other b) xs ≡ true → is_other b c ≡ true → list_all (is_other b) ys ≡ true → list_all (is_other b) (xs ++ c ∷ ys) ≡ true
others_around b [] c ys p q r = passes_both (is_other b c) _ q r
others_around b (x ∷ xs) c ys p q r = let parts = both_of (is_other b x) _ p in passes_both (is_other b x) _ parts.0 (others_around b xs c ys parts.1 q r)

cut_shape : (b : ℕ) (text : List ℕ) (at : List ℕ × List ℕ) → cut_at b text ≡ Some at → text ≡ at.0 ++ b ∷ at.1
cut_shape b text at h = by (position (λ c. c == b) text) refl h
  where
    by : (o : Option ℕ) → position (λ c. c == b) text ≡ o → option_map (λ i. (take i text, drop (i + 1) text)) o ≡ Some at → text ≡ at.0 ++ b ∷ at.1
    by None is e = cc
    by (Some i) is e =
        let found = position-Some (λ c. c == b) text i 0 is in
        let pair : ◌≡◌ {A = List ℕ × List ℕ} (take i text, drop (i + 1) text) at = inside (take i text, drop (i + 1) text) at e in
        split_at text i 0 found.0 ∙ λ k. (pair k).0 ++ eqb-true (get_or text i 0) b found.1 k ∷ (ap (λ n. drop n text) (sym (one_behind i)) ∙ ap (λ q. q.1) pair) k

-- the text is uncut and passes the one test, or is cut in two that pass theirs
abbrev Divided : ℕ → Bool → (List ℕ → Bool) → (List ℕ → Bool) → List ℕ → Type 0
Divided b first before behind text = ((cut_at b text ≡ None) × (first ≡ true)) ⊎ ((parts : List ℕ × List ℕ) × (cut_at b text ≡ Some parts) × (before parts.0 ≡ true) × (behind parts.1 ≡ true))

divided : (b : ℕ) (first : Bool) (before behind : List ℕ → Bool) (text : List ℕ) → (first ≡ true → list_all (is_other b) text ≡ true) → (first || are_around b before behind text) ≡ true → Divided b first before behind text
divided b true before behind text none h = inl (uncut b text (none refl), refl)
divided b false before behind text none h = inr (around b before behind text h)

-- ---- ports and ICMP

span_divided : (text : List ℕ) → is_span text ≡ true → Divided 45 (is_number text) is_number is_number text
span_divided text h = divided 45 (is_number text) is_number is_number text (λ n. other_bytes is_digit 45 refl text (digits_of text n)) h

span_has : (text : List ℕ) → is_span text ≡ true → Has (ports_of text)
span_has text h = by (span_divided text h)
  where
    by : Divided 45 (is_number text) is_number is_number text → Has (ports_of text)
    by (inl e) = ((value_of text, value_of text), ap (λ o. ends_of o text) e.0 ∙ ap (option_map (λ n. (n, n))) (number_has text e.1))
    by (inr e) = ((value_of e.0.0, value_of e.0.1), ap (λ o. ends_of o text) e.1 ∙ both_have (number_has e.0.0 e.2) (number_has e.0.1 e.3))

-- no `:` stands in it
span_uncut : (text : List ℕ) → is_span text ≡ true → list_all (is_other 58) text ≡ true
span_uncut text h = by (span_divided text h)
  where
    digits : (own : List ℕ) → is_number own ≡ true → list_all (is_other 58) own ≡ true
    digits own n = other_bytes is_digit 58 refl own (digits_of own n)

    by : Divided 45 (is_number text) is_number is_number text → list_all (is_other 58) text ≡ true
    by (inl e) = digits text e.1
    by (inr e) = subst (λ l. list_all (is_other 58) l ≡ true) (sym (cut_shape 45 text e.0 e.1)) (others_around 58 e.0.0 45 e.0.1 (digits e.0.0 e.2) refl (digits e.0.1 e.3))

pub ports_have : (text : List ℕ) → is_ports text ≡ true → Has (port_pair_of text)
ports_have text h = by (divided 58 (is_span text) is_span is_span text (span_uncut text) h)
  where
    unless_empty : (v : Bool) (o : Option ((ℕ × ℕ) × (ℕ × ℕ))) → Has o → Has (cond v (Some ((0, 65535), (0, 65535))) o)
    unless_empty true o has = (((0, 65535), (0, 65535)), refl)
    unless_empty false o has = has

    written : Divided 58 (is_span text) is_span is_span text → Has (two_of (cut_at 58 text) text)
    written (inl e) = let own = span_has text e.1 in (((0, 65535), own.0), ap (λ o. two_of o text) e.0 ∙ ap (option_map (λ d. ((0, 65535), d))) own.1)
    written (inr e) = let source = span_has e.0.0 e.2 in let target = span_has e.0.1 e.3 in ((source.0, target.0), ap (λ o. two_of o text) e.1 ∙ both_have source.1 target.1)

    by : Divided 58 (is_span text) is_span is_span text → Has (port_pair_of text)
    by d = unless_empty (is_nothing text) (two_of (cut_at 58 text) text) (written d)

pub icmp_has : (text : List ℕ) → is_icmp text ≡ true → Has (icmp_of text)
icmp_has text h = unless_empty (is_nothing text) (kind_of (cut_at 47 text) text) (written (divided 47 (is_number text) is_number is_number text (λ n. other_bytes is_digit 47 refl text (digits_of text n)) h))
  where
    unless_empty : (v : Bool) (o : Option (Option ℕ × Option ℕ)) → Has o → Has (cond v (Some (None, None)) o)
    unless_empty true o has = ((None, None), refl)
    unless_empty false o has = has

    written : Divided 47 (is_number text) is_number is_number text → Has (kind_of (cut_at 47 text) text)
    written (inl e) = ((Some (value_of text), None), ap (λ o. kind_of o text) e.0 ∙ ap (option_map (λ k. (Some k, None))) (number_has text e.1))
    written (inr e) =
        ((Some (value_of e.0.0), Some (value_of e.0.1)), ap (λ o. kind_of o text) e.1 ∙ ap (option_map (λ two. (Some two.0, Some two.1))) (both_have (number_has e.0.0 e.2) (number_has e.0.1 e.3)))
