-- Ends and ports are read exactly.
use Rattle.std.proofs.Common.{◌≡◌, ◌≢◌, ◌∙◌, refl, sym, ap, subst, ℕ, ◌-◌, ◌%◌, ◌^◌, ◌<◌, ◌≤◌, eqb, ltb, Bool, true, false, not, cond, ◌&&◌, List, [], ◌∷◌, ◌++◌, arith, decimal, codes, bytes_eq, Option, Some, None, option_and_then, option_map}
use Rattle.std.specs.List.{AllByRecursion, list_all}
use Rattle.std.proofs.lemmas.Bool.{and_parts, and_from, not-true, cond-true, cond-false, lt-ltb, ltb-true, eqb-true, eqb-false, ne_eqb, eq-eqb, both_ways, not_from_false}
use Rattle.std.proofs.lemmas.Option.{none-some, same_Some}
use Rattle.std.proofs.lemmas.Slice.Eq.{bytes_eq-Decides}
use Rattle.spoc_base.specs.Address.{Cidr, Interval, any_address}
use Rattle.spoc_base.specs.Boxes.{all_ports}
use Rattle.spoc_base.specs.declared.dialect.Dialect.{Dialect}
use Rattle.spoc_base.specs.declared.dialect.Dialect.TheVariants.{Ios, Asa}
use Rattle.policy_model.specs.Lists.{is_nothing}
use Rattle.device_lines.specs.Numbers.{number_to, address_of}
use Rattle.acl_print.specs.Words.{dotted, mask_in}
use Rattle.device_reading.specs.Facts.{End, OnePrefix, NamedGroup}
use Rattle.spoc_base.specs.PlainSets.{IsPorts}
use Rattle.spoc_base.specs.Spelling.{is_word_byte}
use Rattle.device_reading.specs.Grammar.{IsWord, IsPrefix}
use Rattle.text_laws.proofs.Numerals.{BeginsWithDigit, dotted_begins, no_word}
use Rattle.text_laws.proofs.EntryWords.{mask_small, prefix_words, end_words, port_words}
use Rattle.text_laws.proofs.EntryRead.{length_in, length_told, no_bits, IsNoPort}
use Rattle.device_lines.specs.Alone.{IsEndAlone}
use Rattle.device_lines.specs.Entries.{is_name, mask_length, inner_prefix, masked, take_host, take_masked, prefix_behind, take_prefix, take_group, has_groups, end_behind, take_end, take_one, proper_range, take_two, take_ports}
use Rattle.device_lines.proofs.NumberLaws.{address_back, address_there, bounded_back, bounded_there, some_then, some_map}

-- ---- masks

length_short : (dialect : Dialect) (m : ℕ) → length_in dialect m ≤ 32
length_short Ios m = omega arith
length_short Asa m = omega arith

pub mask_back : (dialect : Dialect) (p : Cidr) → p.len ≤ 32 → mask_length dialect (mask_in dialect p) ≡ Some p.len
mask_back dialect p h =
    let e = length_told dialect p h in
    let same : mask_in dialect (record { net = 0; len = length_in dialect (mask_in dialect p) }) ≡ mask_in dialect p = ap (λ l. mask_in dialect (record { net = 0; len = l })) e ∙ by_length dialect p in
    cond-true _ (Some (length_in dialect (mask_in dialect p))) None (eq-eqb _ _ same) ∙ ap Some e
  where
    by_length : (d : Dialect) (p : Cidr) → mask_in d (record { net = 0; len = p.len }) ≡ mask_in d p
    by_length Ios p = refl
    by_length Asa p = refl

pub record IsMask (dialect : Dialect) (m len : ℕ) : Type 0 where
  pub short : len ≤ 32
  pub same : mask_in dialect (record { net = 0; len = len }) ≡ m

pub mask_there : (dialect : Dialect) (m len : ℕ) → mask_length dialect m ≡ Some len → IsMask dialect m len
mask_there dialect m len e = by (eqb (mask_in dialect (record { net = 0; len = length_in dialect m })) m) refl e
  where
    by : (b : Bool) → eqb (mask_in dialect (record { net = 0; len = length_in dialect m })) m ≡ b → cond b (Some (length_in dialect m)) None ≡ Some len → IsMask dialect m len
    by true f e = let l = same_Some (length_in dialect m) len e in subst (IsMask dialect m) l (record { short = length_short dialect m; same = eqb-true _ _ f })
    by false f e = absurd (none-some len e)

-- ---- prefixes

-- what a prefix is that stands before these words
record IsTaken (dialect : Dialect) (ws : List (List ℕ)) (p : Cidr) (rest : List (List ℕ)) : Type 0 where
  good : IsPrefix p
  words : ws ≡ prefix_words dialect p ++ rest

inner_there : (net len : ℕ) (p : Cidr) → inner_prefix net len ≡ Some p → (0 < len) × (len < 32) × (net % 2 ^ (32 - len) ≡ 0) × (record { net = net; len = len } ≡ p)
inner_there net len p e = by (ltb 0 len && ltb len 32 && eqb (net % 2 ^ (32 - len)) 0) refl e
  where
    by : (b : Bool) → (ltb 0 len && ltb len 32 && eqb (net % 2 ^ (32 - len)) 0) ≡ b → cond b (Some (record { net = net; len = len })) None ≡ Some p →
        (0 < len) × (len < 32) × (net % 2 ^ (32 - len) ≡ 0) × (record { net = net; len = len } ≡ p)
    by true f e =
        let a = and_parts (ltb 0 len && ltb len 32) (eqb (net % 2 ^ (32 - len)) 0) f in
        let b = and_parts (ltb 0 len) (ltb len 32) a.0 in
        (ltb-true 0 len b.0, ltb-true len 32 b.1, eqb-true _ 0 a.1, same_Some _ p e)
    by false f e = absurd (none-some p e)

inner_back : (p : Cidr) → IsPrefix p → (p.len ≡ 0 → ⊥) → (p.len ≡ 32 → ⊥) → inner_prefix p.net p.len ≡ Some p
inner_back p h n m =
    let s = h.good.short in
    cond-true _ (Some p) None (and_from _ _ (and_from _ _ (lt-ltb 0 p.len (omega (arith, n))) (lt-ltb p.len 32 (omega (arith, m, s)))) (eq-eqb _ 0 h.good.aligned))

host_there : (dialect : Dialect) (ws : List (List ℕ)) (p : Cidr) (rest : List (List ℕ)) → take_host ws ≡ Some (p, rest) → IsTaken dialect (codes "host" ∷ ws) p rest
host_there dialect [] p rest e = absurd (none-some _ e)
host_there dialect (a ∷ ws) p rest e =
    let x = some_map {B = Cidr × List (List ℕ)} (λ net. (record { net = net; len = 32 }, ws)) (address_of a) (p, rest) e in
    let t = address_there a x.0 x.1 in
    let same : record { net = x.0; len = 32 } ≡ p = ap (λ (r : Cidr × List (List ℕ)). r.0) x.2 in
    let left : ws ≡ rest = ap (λ (r : Cidr × List (List ℕ)). r.1) x.2 in
    let low = t.low in
    subst (λ q. IsTaken dialect (codes "host" ∷ a ∷ ws) q rest) same
    (record { good = record { good = record { short = omega arith; aligned = omega arith }; low = low }; words = λ i. codes "host" ∷ t.spelled i ∷ left i })

masked_there : (dialect : Dialect) (a : List ℕ) (ws : List (List ℕ)) (p : Cidr) (rest : List (List ℕ)) → take_masked dialect a ws ≡ Some (p, rest) → IsTaken dialect (a ∷ ws) p rest
masked_there dialect a [] p rest e = absurd (none-some _ e)
masked_there dialect a (m ∷ ws) p rest e =
    let x = some_then {B = Cidr × List (List ℕ)} (λ net. option_and_then (λ mask. option_map (λ p. (p, ws)) (masked dialect net mask)) (address_of m)) (address_of a) (p, rest) e in
    let y = some_then {B = Cidr × List (List ℕ)} (λ mask. option_map (λ p. (p, ws)) (masked dialect x.0 mask)) (address_of m) (p, rest) x.2 in
    let z = some_map {B = Cidr × List (List ℕ)} (λ p. (p, ws)) (masked dialect x.0 y.0) (p, rest) y.2 in
    let v = some_then (inner_prefix x.0) (mask_length dialect y.0) z.0 z.1 in
    let net = address_there a x.0 x.1 in
    let mask = address_there m y.0 y.1 in
    let told = mask_there dialect y.0 v.0 v.1 in
    let inner = inner_there x.0 v.0 z.0 v.2 in
    let same : record { net = x.0; len = v.0 } ≡ p = inner.3 ∙ ap (λ (r : Cidr × List (List ℕ)). r.0) z.2 in
    let left : ws ≡ rest = ap (λ (r : Cidr × List (List ℕ)). r.1) z.2 in
    subst (λ q. IsTaken dialect (a ∷ m ∷ ws) q rest) same (plain x.0 v.0 net.spelled net.low mask.spelled inner.0 inner.1 inner.2 told left)
  where
    by_length : (d : Dialect) (net len : ℕ) → mask_in d (record { net = 0; len = len }) ≡ mask_in d (record { net = net; len = len })
    by_length Ios net len = refl
    by_length Asa net len = refl

    plain : (net len : ℕ) → a ≡ dotted net → net < 2 ^ 32 → {mask : ℕ} → m ≡ dotted mask → 0 < len → len < 32 → net % 2 ^ (32 - len) ≡ 0 → IsMask dialect mask len → ws ≡ rest → IsTaken dialect (a ∷ m ∷ ws) (record { net = net; len = len }) rest
    plain net len e low f above below aligned told left =
        record {
          good = record { good = record { short = omega arith; aligned = aligned }; low = low };
          words =
              (λ i. e i ∷ (f ∙ ap dotted (sym told.same ∙ by_length dialect net len)) i ∷ left i)
              ∙ sym (ap (λ l. l ++ rest)
              (cond-false (eqb len 0) _ _ (ne_eqb len 0 (λ e. omega (arith, e)))
              ∙ cond-false (eqb len 32) (codes "host" ∷ dotted net ∷ []) (dotted net ∷ dotted (mask_in dialect (record { net = net; len = len })) ∷ []) (ne_eqb len 32 (λ e. omega (arith, e)))));
        }

prefix_there : (dialect : Dialect) (ws : List (List ℕ)) (p : Cidr) (rest : List (List ℕ)) → take_prefix dialect ws ≡ Some (p, rest) → IsTaken dialect ws p rest
prefix_there dialect [] p rest e = absurd (none-some _ e)
prefix_there dialect (w ∷ ws) p rest e = by (bytes_eq w (codes "any")) (bytes_eq w (codes "host")) refl refl e
  where
    by : (a b : Bool) → bytes_eq w (codes "any") ≡ a → bytes_eq w (codes "host") ≡ b → cond a (Some (any_address, ws)) (cond b (take_host ws) (take_masked dialect w ws)) ≡ Some (p, rest) → IsTaken dialect (w ∷ ws) p rest
    by true b f g e =
        let r = same_Some {A = Cidr × List (List ℕ)} (any_address, ws) (p, rest) e in
        let word = (bytes_eq-Decides w (codes "any")).0 f in
        subst (λ (t : Cidr × List (List ℕ)). IsTaken dialect (w ∷ ws) t.0 t.1) r
        (record { good = record { good = record { short = omega arith; aligned = omega arith }; low = omega arith }; words = ap (λ v. v ∷ ws) word })
    by false true f g e = subst (λ v. IsTaken dialect (v ∷ ws) p rest) (sym ((bytes_eq-Decides w (codes "host")).0 g)) (host_there dialect ws p rest e)
    by false false f g e = masked_there dialect w ws p rest e

prefix_back : (dialect : Dialect) (p : Cidr) (rest : List (List ℕ)) → IsPrefix p → take_prefix dialect (prefix_words dialect p ++ rest) ≡ Some (p, rest)
prefix_back dialect p rest h = by (eqb p.len 0) (eqb p.len 32) refl refl
  where
    digit : BeginsWithDigit (dotted p.net)
    digit = dotted_begins p.net h.low

    by : (a b : Bool) → eqb p.len 0 ≡ a → eqb p.len 32 ≡ b →
        take_prefix dialect (cond a (codes "any" ∷ []) (cond b (codes "host" ∷ dotted p.net ∷ []) (dotted p.net ∷ dotted (mask_in dialect p) ∷ [])) ++ rest) ≡ Some (p, rest)
    by true b e f = let same = no_bits p h (eqb-true p.len 0 e) in λ i. Some (same i, rest)
    by false true e f =
        ap (option_map {U = Cidr × List (List ℕ)} (λ net. (record { net = net; len = 32 }, rest))) (address_back p.net h.low) ∙ (λ i. Some (record { net = p.net; len = sym (eqb-true p.len 32 f) i }, rest))
    by false false e f =
        let mask = mask_in dialect p in
        let inner = inner_back p h (eqb-false p.len 0 e) (eqb-false p.len 32 f) in
        cond-false (bytes_eq (dotted p.net) (codes "any")) _ _ (no_word (dotted p.net) 97 _ digit (omega arith))
        ∙ cond-false (bytes_eq (dotted p.net) (codes "host")) _ _ (no_word (dotted p.net) 104 _ digit (omega arith))
        ∙ ap (option_and_then {U = Cidr × List (List ℕ)} (λ net. option_and_then (λ m. option_map (λ p. (p, rest)) (masked dialect net m)) (address_of (dotted mask)))) (address_back p.net h.low)
        ∙ ap (option_and_then {U = Cidr × List (List ℕ)} (λ m. option_map (λ p. (p, rest)) (masked dialect p.net m))) (address_back mask (mask_small dialect p))
        ∙ ap (λ l. option_map {U = Cidr × List (List ℕ)} (λ p. (p, rest)) (option_and_then (inner_prefix p.net) l)) (mask_back dialect p h.good.short)
        ∙ ap (option_map {U = Cidr × List (List ℕ)} (λ p. (p, rest))) inner

-- ---- names and ends

pub nothing_there : {A : Type 0} (xs : List A) → is_nothing xs ≡ true → xs ≡ []
nothing_there [] e = refl
nothing_there (x ∷ xs) e = absurd (both_ways false refl e)

some_item : {A : Type 0} (xs : List A) → not (is_nothing xs) ≡ true → xs ≢ []
some_item [] e f = both_ways false refl e
some_item (x ∷ xs) e f = cc

item_some : {A : Type 0} (xs : List A) → xs ≢ [] → not (is_nothing xs) ≡ true
item_some [] f = absurd (f refl)
item_some (x ∷ xs) f = refl

bytes_there : (bs : List ℕ) → list_all is_word_byte bs ≡ true → AllByRecursion (λ b. is_word_byte b ≡ true) bs
bytes_there [] e = tt
bytes_there (b ∷ bs) e = let w = and_parts (is_word_byte b) (list_all is_word_byte bs) e in (w.0, bytes_there bs w.1)

bytes_back : (bs : List ℕ) → AllByRecursion (λ b. is_word_byte b ≡ true) bs → list_all is_word_byte bs ≡ true
bytes_back [] h = refl
bytes_back (b ∷ bs) h = and_from (is_word_byte b) (list_all is_word_byte bs) h.0 (bytes_back bs h.1)

pub name_there : (name : List ℕ) → is_name name ≡ true → IsWord name
name_there name e = let w = and_parts (not (is_nothing name)) (list_all is_word_byte name) e in record { some = some_item name w.0; bytes = bytes_there name w.1 }

pub name_back : (name : List ℕ) → IsWord name → is_name name ≡ true
name_back name h = and_from (not (is_nothing name)) (list_all is_word_byte name) (item_some name h.some) (bytes_back name h.bytes)

-- an end that stands before these words
pub record IsEndTaken (dialect : Dialect) (ws : List (List ℕ)) (e : End) (rest : List (List ℕ)) : Type 0 where
  pub good : IsEndAlone dialect e
  pub words : ws ≡ end_words dialect e ++ rest

one_prefix : (dialect : Dialect) (w : List ℕ) (ws : List (List ℕ)) (e : End) (rest : List (List ℕ)) → option_map {U = End × List (List ℕ)} (λ (r : Cidr × List (List ℕ)). (OnePrefix r.0, r.1)) (prefix_behind dialect w ws) ≡ Some (e, rest) →
    IsEndTaken dialect (w ∷ ws) e rest
one_prefix dialect w ws e rest f =
    let x = some_map {B = End × List (List ℕ)} (λ (r : Cidr × List (List ℕ)). (OnePrefix r.0, r.1)) (prefix_behind dialect w ws) (e, rest) f in
    let t = prefix_there dialect (w ∷ ws) x.0.0 x.0.1 x.1 in
    subst (λ (r : End × List (List ℕ)). IsEndTaken dialect (w ∷ ws) r.0 r.1) x.2 (record { good = t.good; words = t.words })

pub end_there : (dialect : Dialect) (ws : List (List ℕ)) (e : End) (rest : List (List ℕ)) → take_end dialect ws ≡ Some (e, rest) → IsEndTaken dialect ws e rest
end_there dialect [] e rest f = absurd (none-some _ f)
end_there Ios (w ∷ ws) e rest f = one_prefix Ios w ws e rest f
end_there Asa (w ∷ ws) e rest f = by (bytes_eq w (codes "object-group")) refl f
  where
    group : (ws : List (List ℕ)) → take_group ws ≡ Some (e, rest) → IsEndTaken Asa (codes "object-group" ∷ ws) e rest
    group [] f = absurd (none-some _ f)
    group (n ∷ ws) f = test (is_name n) refl f
      where
        test : (b : Bool) → is_name n ≡ b → cond {A = Option (End × List (List ℕ))} b (Some (NamedGroup n [], ws)) None ≡ Some (e, rest) → IsEndTaken Asa (codes "object-group" ∷ n ∷ ws) e rest
        test true g f =
            let same = same_Some {A = End × List (List ℕ)} (NamedGroup n [], ws) (e, rest) f in
            subst (λ (r : End × List (List ℕ)). IsEndTaken Asa (codes "object-group" ∷ n ∷ ws) r.0 r.1) same (record { good = (name_there n g, refl); words = refl })
        test false g f = absurd (none-some _ f)

    by : (b : Bool) → bytes_eq w (codes "object-group") ≡ b →
        cond b (take_group ws) (option_map {U = End × List (List ℕ)} (λ (r : Cidr × List (List ℕ)). (OnePrefix r.0, r.1)) (prefix_behind Asa w ws)) ≡ Some (e, rest) → IsEndTaken Asa (w ∷ ws) e rest
    by true g f = subst (λ v. IsEndTaken Asa (v ∷ ws) e rest) (sym ((bytes_eq-Decides w (codes "object-group")).0 g)) (group ws f)
    by false g f = one_prefix Asa w ws e rest f

end_of_prefix : (dialect : Dialect) (p : Cidr) (rest : List (List ℕ)) → IsPrefix p → take_end dialect (prefix_words dialect p ++ rest) ≡ option_map {U = End × List (List ℕ)} (λ (r : Cidr × List (List ℕ)). (OnePrefix r.0, r.1)) (take_prefix dialect (prefix_words dialect p ++ rest))
end_of_prefix Ios p rest h = by (eqb p.len 0) (eqb p.len 32)
  where
    by : (a b : Bool) → take_end Ios (cond a (codes "any" ∷ []) (cond b (codes "host" ∷ dotted p.net ∷ []) (dotted p.net ∷ dotted (mask_in Ios p) ∷ [])) ++ rest)
        ≡ option_map {U = End × List (List ℕ)} (λ (r : Cidr × List (List ℕ)). (OnePrefix r.0, r.1)) (take_prefix Ios (cond a (codes "any" ∷ []) (cond b (codes "host" ∷ dotted p.net ∷ []) (dotted p.net ∷ dotted (mask_in Ios p) ∷ [])) ++ rest))
    by true b = refl
    by false true = refl
    by false false = refl
end_of_prefix Asa p rest h = by (eqb p.len 0) (eqb p.len 32)
  where
    by : (a b : Bool) → take_end Asa (cond a (codes "any" ∷ []) (cond b (codes "host" ∷ dotted p.net ∷ []) (dotted p.net ∷ dotted (mask_in Asa p) ∷ [])) ++ rest)
        ≡ option_map {U = End × List (List ℕ)} (λ (r : Cidr × List (List ℕ)). (OnePrefix r.0, r.1)) (take_prefix Asa (cond a (codes "any" ∷ []) (cond b (codes "host" ∷ dotted p.net ∷ []) (dotted p.net ∷ dotted (mask_in Asa p) ∷ [])) ++ rest))
    by true b = refl
    by false true = refl
    by false false = cond-false (bytes_eq (dotted p.net) (codes "object-group")) _ _ (no_word (dotted p.net) 111 _ (dotted_begins p.net h.low) (omega arith))

pub end_back : (dialect : Dialect) (e : End) (rest : List (List ℕ)) → IsEndAlone dialect e → take_end dialect (end_words dialect e ++ rest) ≡ Some (e, rest)
end_back dialect (OnePrefix p) rest h =
    end_of_prefix dialect p rest h ∙ ap (option_map {U = End × List (List ℕ)} (λ (r : Cidr × List (List ℕ)). (OnePrefix r.0, r.1))) (prefix_back dialect p rest h)
end_back Ios (NamedGroup name members) rest h = absurd h
end_back Asa (NamedGroup name members) rest h =
    cond-true (is_name name) (Some (NamedGroup name [], rest)) None (name_back name h.0) ∙ (λ i. Some (NamedGroup name (sym h.1 i), rest))

-- ---- ports

pub record ArePortsTaken (ws : List (List ℕ)) (r : Interval) (rest : List (List ℕ)) : Type 0 where
  pub good : IsPorts r
  pub words : ws ≡ port_words r ++ rest

one_port : (n : ℕ) → n ≤ 65535 → port_words (record { first = n; last = n }) ≡ codes "eq" ∷ decimal n ∷ []
one_port n h = by (eqb n 0 && eqb n 65535) refl
  where
    by : (b : Bool) → (eqb n 0 && eqb n 65535) ≡ b → cond b [] (cond (eqb n n) (codes "eq" ∷ decimal n ∷ []) (codes "range" ∷ decimal n ∷ decimal n ∷ [])) ≡ codes "eq" ∷ decimal n ∷ []
    by true e =
        let w = and_parts (eqb n 0) (eqb n 65535) e in
        let x = eqb-true n 0 w.0 in
        let y = eqb-true n 65535 w.1 in
        absurd (omega (arith, x, y))
    by false e = cond-true (eqb n n) _ _ (eq-eqb n n refl)

one_there : (ws : List (List ℕ)) (r : Interval) (rest : List (List ℕ)) → take_one ws ≡ Some (r, rest) → ArePortsTaken (codes "eq" ∷ ws) r rest
one_there [] r rest e = absurd (none-some _ e)
one_there (a ∷ ws) r rest e =
    let x = some_map {B = Interval × List (List ℕ)} (λ n. (record { first = n; last = n }, ws)) (number_to 65535 a) (r, rest) e in
    let t = bounded_there 65535 x.0 a x.1 in
    let low = t.low in
    subst (λ (q : Interval × List (List ℕ)). ArePortsTaken (codes "eq" ∷ a ∷ ws) q.0 q.1) x.2
    (record { good = (omega arith, omega arith); words = ap (λ v. codes "eq" ∷ v ∷ ws) t.spelled ∙ ap (λ l. l ++ ws) (sym (one_port x.0 low)) })

two_there : (ws : List (List ℕ)) (r : Interval) (rest : List (List ℕ)) → take_two ws ≡ Some (r, rest) → ArePortsTaken (codes "range" ∷ ws) r rest
two_there [] r rest e = absurd (none-some _ e)
two_there (a ∷ []) r rest e = absurd (none-some _ e)
two_there (a ∷ b ∷ ws) r rest e =
    let x = some_then {B = Interval × List (List ℕ)} (λ m. option_and_then (λ n. option_map (λ r. (r, ws)) (proper_range m n)) (number_to 65535 b)) (number_to 65535 a) (r, rest) e in
    let y = some_then {B = Interval × List (List ℕ)} (λ n. option_map (λ r. (r, ws)) (proper_range x.0 n)) (number_to 65535 b) (r, rest) x.2 in
    let z = some_map {B = Interval × List (List ℕ)} (λ r. (r, ws)) (proper_range x.0 y.0) (r, rest) y.2 in
    let low = bounded_there 65535 x.0 a x.1 in
    let high = bounded_there 65535 y.0 b y.1 in
    subst (λ (q : Interval × List (List ℕ)). ArePortsTaken (codes "range" ∷ a ∷ b ∷ ws) q.0 q.1) z.2 (proper x.0 y.0 z.0 low.spelled high.spelled high.low (ltb x.0 y.0 && not (eqb x.0 0 && eqb y.0 65535)) refl z.1)
  where
    proper : (m n : ℕ) (q : Interval) → a ≡ decimal m → b ≡ decimal n → n ≤ 65535 → (t : Bool) → (ltb m n && not (eqb m 0 && eqb n 65535)) ≡ t → cond t (Some (record { first = m; last = n })) None ≡ Some q → ArePortsTaken (codes "range" ∷ a ∷ b ∷ ws) q ws
    proper m n q f g h true k e =
        let w = and_parts (ltb m n) (not (eqb m 0 && eqb n 65535)) k in
        let less = ltb-true m n w.0 in
        subst (λ p. ArePortsTaken (codes "range" ∷ a ∷ b ∷ ws) p ws) (same_Some _ q e)
        (record {
          good = (omega arith, omega arith);
          words =
              (λ i. codes "range" ∷ f i ∷ g i ∷ ws)
              ∙ ap (λ l. l ++ ws) (sym (cond-false (eqb m 0 && eqb n 65535) _ _ (not-true (eqb m 0 && eqb n 65535) w.1) ∙ cond-false (eqb m n) _ _ (ne_eqb m n (λ e. omega (arith, e, less)))));
        })
    proper m n q f g h false k e = absurd (none-some q e)

pub ports_there : (ws : List (List ℕ)) (r : Interval) (rest : List (List ℕ)) → take_ports ws ≡ Some (r, rest) → ArePortsTaken ws r rest
ports_there [] r rest e = subst (λ (q : Interval × List (List ℕ)). ArePortsTaken [] q.0 q.1) (same_Some {A = Interval × List (List ℕ)} (all_ports, []) (r, rest) e) (record { good = (omega arith, omega arith); words = refl })
ports_there (w ∷ ws) r rest e = by (bytes_eq w (codes "eq")) (bytes_eq w (codes "range")) refl refl e
  where
    by : (a b : Bool) → bytes_eq w (codes "eq") ≡ a → bytes_eq w (codes "range") ≡ b → cond a (take_one ws) (cond b (take_two ws) (Some (all_ports, w ∷ ws))) ≡ Some (r, rest) → ArePortsTaken (w ∷ ws) r rest
    by true b f g e = subst (λ v. ArePortsTaken (v ∷ ws) r rest) (sym ((bytes_eq-Decides w (codes "eq")).0 f)) (one_there ws r rest e)
    by false true f g e = subst (λ v. ArePortsTaken (v ∷ ws) r rest) (sym ((bytes_eq-Decides w (codes "range")).0 g)) (two_there ws r rest e)
    by false false f g e =
        subst (λ (q : Interval × List (List ℕ)). ArePortsTaken (w ∷ ws) q.0 q.1) (same_Some {A = Interval × List (List ℕ)} (all_ports, w ∷ ws) (r, rest) e) (record { good = (omega arith, omega arith); words = refl })

pub no_ports_back : (rest : List (List ℕ)) → IsNoPort rest → take_ports rest ≡ Some (all_ports, rest)
no_ports_back [] n = refl
no_ports_back (w ∷ ws) n = cond-false (bytes_eq w (codes "eq")) _ _ n.no_eq ∙ cond-false (bytes_eq w (codes "range")) _ _ n.no_range

pub ports_back : (r : Interval) (rest : List (List ℕ)) → IsPorts r → IsNoPort rest → take_ports (port_words r ++ rest) ≡ Some (r, rest)
ports_back r rest h n = by (eqb r.first 0 && eqb r.last 65535) (eqb r.first r.last) refl refl
  where
    by : (a b : Bool) → (eqb r.first 0 && eqb r.last 65535) ≡ a → eqb r.first r.last ≡ b →
        take_ports (cond a [] (cond b (codes "eq" ∷ decimal r.first ∷ []) (codes "range" ∷ decimal r.first ∷ decimal r.last ∷ [])) ++ rest) ≡ Some (r, rest)
    by true b e f =
        let both = and_parts (eqb r.first 0) (eqb r.last 65535) e in
        let first = eqb-true r.first 0 both.0 in
        let last = eqb-true r.last 65535 both.1 in
        no_ports_back rest n ∙ (λ i. Some (record { first = sym first i; last = sym last i }, rest))
    by false true e f =
        let same = eqb-true r.first r.last f in
        ap (option_map {U = Interval × List (List ℕ)} (λ n. (record { first = n; last = n }, rest))) (bounded_back 65535 r.first (omega arith) (omega (arith, h.0, h.1)))
        ∙ (λ i. Some (record { first = r.first; last = same i }, rest))
    by false false e f =
        let less : r.first < r.last = omega (arith, h.0, eqb-false r.first r.last f) in
        ap (option_and_then {U = Interval × List (List ℕ)} (λ m. option_and_then (λ n. option_map (λ r. (r, rest)) (proper_range m n)) (number_to 65535 (decimal r.last)))) (bounded_back 65535 r.first (omega arith) (omega (arith, h.0, h.1)))
        ∙ ap (option_and_then {U = Interval × List (List ℕ)} (λ n. option_map (λ r. (r, rest)) (proper_range r.first n))) (bounded_back 65535 r.last (omega arith) (omega (arith, h.1)))
        ∙ ap (option_map {U = Interval × List (List ℕ)} (λ r. (r, rest))) (cond-true (ltb r.first r.last && not (eqb r.first 0 && eqb r.last 65535)) (Some r) None (and_from _ _ (lt-ltb r.first r.last less) (not_from_false _ e)))
