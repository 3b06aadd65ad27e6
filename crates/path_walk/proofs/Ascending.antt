-- Pairs of numbers in ascending order: two such lists with the same pairs are one.
use Rattle.std.proofs.Common.{◌≡◌, ℕ, zero, suc, ◌+◌, ◌<◌, ◌≤◌, ◌⊎◌, inl, inr, Bool, true, false, cond, ◌&&◌, ◌||◌, List, [], ◌∷◌, ◌++◌, map, refl, sym, ap, subst, ◌∙◌, ⊎_elim, arith}
use Rattle.std.specs.Prelude.{◌==◌, filter, flat_map, nat_lt}
use Rattle.std.specs.declared.cmp.Ordering.{Ordering}
use Rattle.std.specs.declared.cmp.Ordering.TheVariants.{Less, Equal, Greater}
use Rattle.std.specs.Ordering.{ordering_then, match_ordering}
use Rattle.std.specs.BTreeSet.{insert_key}
use Rattle.std.specs.List.{list_any, list_all, range_with_len}
use Rattle.std.proofs.lemmas.Bool.{and_parts, and_from, and_left, and_right, or_cases, or_left, or_right, or_parts, eqb-true, eqb-false, eq-eqb, ltb-true, ltb-false, lt-ltb, false≢true}
use Rattle.std.proofs.lemmas.List.Folds.{list_all-append}
use Rattle.policy_model.specs.Lists.{numbers_below, pairs_of}
use Rattle.policy_model.proofs.AllWalks.{IsIn, in_pairs, in_numbers}
use Rattle.path_walk.specs.Pairs.{pair_order, with_pairs}
use Rattle.path_walk.proofs.Fronts.{refused}

abbrev pub below : ℕ × ℕ → ℕ × ℕ → Bool
below a b = nat_lt a.0 b.0 || ((a.0 == b.0) && nat_lt a.1 b.1)

abbrev pub same_pair : ℕ × ℕ → ℕ × ℕ → Bool
same_pair a b = (a.0 == b.0) && (a.1 == b.1)

-- ---- the order

below_first : (a b : ℕ × ℕ) → a.0 < b.0 → below a b ≡ true
below_first a b h = or_left (nat_lt a.0 b.0) ((a.0 == b.0) && nat_lt a.1 b.1) (lt-ltb a.0 b.0 h)

below_second : (a b : ℕ × ℕ) → a.0 ≡ b.0 → a.1 < b.1 → below a b ≡ true
below_second a b e h = or_right (nat_lt a.0 b.0) ((a.0 == b.0) && nat_lt a.1 b.1) (and_from (a.0 == b.0) (nat_lt a.1 b.1) (eq-eqb a.0 b.0 e) (lt-ltb a.1 b.1 h))

below_parts : (a b : ℕ × ℕ) → below a b ≡ true → (a.0 < b.0) ⊎ ((a.0 ≡ b.0) × (a.1 < b.1))
below_parts a b h =
    ⊎_elim (λ e. inl (ltb-true a.0 b.0 e)) (λ e. let t = and_parts (a.0 == b.0) (nat_lt a.1 b.1) e in inr (eqb-true a.0 b.0 t.0, ltb-true a.1 b.1 t.1))
    (or_cases (nat_lt a.0 b.0) ((a.0 == b.0) && nat_lt a.1 b.1) h)

below_on : (a b c : ℕ × ℕ) → below a b ≡ true → below b c ≡ true → below a c ≡ true
below_on a b c h g =
    ⊎_elim
    (λ x. ⊎_elim (λ y. below_first a c (omega (arith, x, y))) (λ y. below_first a c (omega (arith, x, y.0))) (below_parts b c g))
    (λ x. ⊎_elim (λ y. below_first a c (omega (arith, x.0, y))) (λ y. below_second a c (x.0 ∙ y.0) (omega (arith, x.1, y.1))) (below_parts b c g))
    (below_parts a b h)

same_is : (a b : ℕ × ℕ) → same_pair a b ≡ true → a ≡ b
same_is a b h =
    let t = and_parts (a.0 == b.0) (a.1 == b.1) h in
    let x : (a.0, a.1) ≡ (b.0, a.1) = ap (λ (n : ℕ). (n, a.1)) (eqb-true a.0 b.0 t.0) in
    let y : (b.0, a.1) ≡ (b.0, b.1) = ap (λ (n : ℕ). (b.0, n)) (eqb-true a.1 b.1 t.1) in
    x ∙ y

pub same_self : (a : ℕ × ℕ) → same_pair a a ≡ true
same_self a = and_from (a.0 == a.0) (a.1 == a.1) (eq-eqb a.0 a.0 refl) (eq-eqb a.1 a.1 refl)

not_same : (a b : ℕ × ℕ) → below a b ≡ true → same_pair a b ≡ false
not_same a b h =
    refused (same_pair a b) (λ e.
    let t = and_parts (a.0 == b.0) (a.1 == b.1) e in
    ⊎_elim (λ x. absurd (omega (arith, x, eqb-true a.0 b.0 t.0))) (λ x. absurd (omega (arith, x.1, eqb-true a.1 b.1 t.1))) (below_parts a b h))

not_back : (a b : ℕ × ℕ) → below a b ≡ true → same_pair b a ≡ false
not_back a b h =
    refused (same_pair b a) (λ e.
    let t = and_parts (b.0 == a.0) (b.1 == a.1) e in
    ⊎_elim (λ x. absurd (omega (arith, x, eqb-true b.0 a.0 t.0))) (λ x. absurd (omega (arith, x.1, eqb-true b.1 a.1 t.1))) (below_parts a b h))

above : (a b : ℕ × ℕ) → below a b ≡ false → same_pair a b ≡ false → below b a ≡ true
above a b h g = by_first (or_parts (nat_lt a.0 b.0) ((a.0 == b.0) && nat_lt a.1 b.1) h) (a.0 == b.0) refl
  where
    by_first : (nat_lt a.0 b.0 ≡ false) × (((a.0 == b.0) && nat_lt a.1 b.1) ≡ false) → (t : Bool) → (a.0 == b.0) ≡ t → below b a ≡ true
    by_first p true e =
        let second : nat_lt a.1 b.1 ≡ false = sym (ap (λ (u : Bool). u && nat_lt a.1 b.1) e) ∙ p.1 in
        let apart : (a.1 == b.1) ≡ false = sym (ap (λ (u : Bool). u && (a.1 == b.1)) e) ∙ g in
        below_second b a (sym (eqb-true a.0 b.0 e)) (strictly a.1 b.1 (ltb-false a.1 b.1 second) (eqb-false a.1 b.1 apart))
      where
        strictly : (m n : ℕ) → n ≤ m → (m ≡ n → ⊥) → n < m
        strictly m n low apart = omega (arith, low, apart)
    by_first p false e = below_first b a (strictly a.0 b.0 (ltb-false a.0 b.0 p.0) (eqb-false a.0 b.0 e))
      where
        strictly : (m n : ℕ) → n ≤ m → (m ≡ n → ⊥) → n < m
        strictly m n low apart = omega (arith, low, apart)

four : (p q r t : Bool) → ordering_then (cond p Less (cond q Equal Greater)) (cond r Less (cond t Equal Greater)) ≡ cond (p || (q && r)) Less (cond (q && t) Equal Greater)
four true q r t = refl
four false true true t = refl
four false true false t = refl
four false false r t = refl

-- ---- a pair that is put in its place

abbrev put : List (ℕ × ℕ) → ℕ × ℕ → List (ℕ × ℕ)
put [] k = k ∷ []
put (x ∷ xs) k = cond (below k x) (k ∷ x ∷ xs) (cond (same_pair k x) (x ∷ xs) (x ∷ put xs k))

choose : {A : Type 0} (b c : Bool) (u v w : A) → match_ordering (cond b Less (cond c Equal Greater)) u v w ≡ cond b u (cond c v w)
choose true c u v w = refl
choose false true u v w = refl
choose false false u v w = refl

put_is : (xs : List (ℕ × ℕ)) (k : ℕ × ℕ) → insert_key pair_order xs k ≡ put xs k
put_is [] k = refl
put_is (x ∷ xs) k =
    ap (λ (o : Ordering). match_ordering o (k ∷ x ∷ xs) (x ∷ xs) (x ∷ insert_key pair_order xs k)) (four (nat_lt k.0 x.0) (k.0 == x.0) (nat_lt k.1 x.1) (k.1 == x.1))
    ∙ (choose (below k x) (same_pair k x) (k ∷ x ∷ xs) (x ∷ xs) (x ∷ insert_key pair_order xs k)
    ∙ ap (λ (l : List (ℕ × ℕ)). cond (below k x) (k ∷ x ∷ xs) (cond (same_pair k x) (x ∷ xs) (x ∷ l))) (put_is xs k))

abbrev pub has_pair : List (ℕ × ℕ) → ℕ × ℕ → Bool
has_pair xs q = list_any (same_pair q) xs

abbrev pub ascends : List (ℕ × ℕ) → Bool
ascends [] = true
ascends (x ∷ xs) = list_all (below x) xs && ascends xs

or_twice : (a b : Bool) → (a || b) ≡ (a || (a || b))
or_twice true b = refl
or_twice false b = refl

or_swap : (a b c : Bool) → (a || (b || c)) ≡ (b || (a || c))
or_swap true true c = refl
or_swap true false c = refl
or_swap false b c = refl

put_has : (xs : List (ℕ × ℕ)) (k q : ℕ × ℕ) → has_pair (put xs k) q ≡ (same_pair q k || has_pair xs q)
put_has [] k q = refl
put_has (x ∷ xs) k q = step (put_has xs k q) (below k x) (same_pair k x) refl
  where
    step : has_pair (put xs k) q ≡ (same_pair q k || has_pair xs q) → (b c : Bool) → same_pair k x ≡ c → has_pair (cond b (k ∷ x ∷ xs) (cond c (x ∷ xs) (x ∷ put xs k))) q ≡ (same_pair q k || (same_pair q x || has_pair xs q))
    step later true c e = refl
    step later false true e =
        or_twice (same_pair q x) (has_pair xs q) ∙ ap (λ (y : ℕ × ℕ). same_pair q y || (same_pair q x || has_pair xs q)) (sym (same_is k x e))
    step later false false e =
        ap (λ (b : Bool). same_pair q x || b) later ∙ or_swap (same_pair q x) (same_pair q k) (has_pair xs q)

put_above : (a k : ℕ × ℕ) (xs : List (ℕ × ℕ)) → below a k ≡ true → list_all (below a) xs ≡ true → list_all (below a) (put xs k) ≡ true
put_above a k [] h all = and_from (below a k) true h refl
put_above a k (x ∷ xs) h all =
    let t = and_parts (below a x) (list_all (below a) xs) all in step (and_from (below a x) (list_all (below a) (put xs k)) t.0 (put_above a k xs h t.1)) (below k x) (same_pair k x)
  where
    step : list_all (below a) (x ∷ put xs k) ≡ true → (b c : Bool) → list_all (below a) (cond b (k ∷ x ∷ xs) (cond c (x ∷ xs) (x ∷ put xs k))) ≡ true
    step later true c = and_from (below a k) (list_all (below a) (x ∷ xs)) h all
    step later false true = all
    step later false false = later

all_on : (a b : ℕ × ℕ) (xs : List (ℕ × ℕ)) → below a b ≡ true → list_all (below b) xs ≡ true → list_all (below a) xs ≡ true
all_on a b [] h all = refl
all_on a b (x ∷ xs) h all = let t = and_parts (below b x) (list_all (below b) xs) all in and_from (below a x) (list_all (below a) xs) (below_on a b x h t.0) (all_on a b xs h t.1)

put_ascends : (xs : List (ℕ × ℕ)) (k : ℕ × ℕ) → ascends xs ≡ true → ascends (put xs k) ≡ true
put_ascends [] k up = refl
put_ascends (x ∷ xs) k up =
    let t = and_parts (list_all (below x) xs) (ascends xs) up in step t.0 (put_ascends xs k t.1) (below k x) (same_pair k x) refl refl
  where
    step : list_all (below x) xs ≡ true → ascends (put xs k) ≡ true → (b c : Bool) → below k x ≡ b → same_pair k x ≡ c → ascends (cond b (k ∷ x ∷ xs) (cond c (x ∷ xs) (x ∷ put xs k))) ≡ true
    step first later true c e f =
        and_from (list_all (below k) (x ∷ xs)) (ascends (x ∷ xs)) (and_from (below k x) (list_all (below k) xs) e (all_on k x xs e first)) up
    step first later false true e f = up
    step first later false false e f =
        and_from (list_all (below x) (put xs k)) (ascends (put xs k)) (put_above x k xs (above k x e f) first) later

or_mix : (a b c : Bool) → ((a || b) || c) ≡ (b || (a || c))
or_mix true true c = refl
or_mix true false c = refl
or_mix false b c = refl

with_has : (keys ps : List (ℕ × ℕ)) (q : ℕ × ℕ) → has_pair (with_pairs keys ps) q ≡ (has_pair keys q || has_pair ps q)
with_has keys [] q = sym (or_false (has_pair keys q))
  where
    or_false : (b : Bool) → (b || false) ≡ b
    or_false true = refl
    or_false false = refl
with_has keys (p ∷ ps) q =
    with_has (insert_key pair_order keys p) ps q
    ∙ (ap (λ (l : List (ℕ × ℕ)). has_pair l q || has_pair ps q) (put_is keys p)
    ∙ (ap (λ (b : Bool). b || has_pair ps q) (put_has keys p q) ∙ or_mix (same_pair q p) (has_pair keys q) (has_pair ps q)))

with_ascends : (keys ps : List (ℕ × ℕ)) → ascends keys ≡ true → ascends (with_pairs keys ps) ≡ true
with_ascends keys [] up = up
with_ascends keys (p ∷ ps) up = with_ascends (insert_key pair_order keys p) ps (ap ascends (put_is keys p) ∙ put_ascends keys p up)

-- ---- two ascending lists

lacks : (x : ℕ × ℕ) (xs : List (ℕ × ℕ)) → list_all (below x) xs ≡ true → has_pair xs x ≡ false
lacks x [] all = refl
lacks x (y ∷ ys) all =
    let t = and_parts (below x y) (list_all (below x) ys) all in ap (λ (b : Bool). b || has_pair ys x) (not_same x y t.0) ∙ lacks x ys t.1

has_head : (x : ℕ × ℕ) (xs : List (ℕ × ℕ)) → has_pair (x ∷ xs) x ≡ true
has_head x xs = or_left (same_pair x x) (has_pair xs x) (same_self x)

-- a pair below the first one isn't there
lacks_lower : (x y : ℕ × ℕ) (ys : List (ℕ × ℕ)) → below x y ≡ true → ascends (y ∷ ys) ≡ true → has_pair (y ∷ ys) x ≡ false
lacks_lower x y ys h up =
    let t = and_parts (list_all (below y) ys) (ascends ys) up in lacks x (y ∷ ys) (and_from (below x y) (list_all (below x) ys) h (all_on x y ys h t.0))

pub sorted_same : (xs ys : List (ℕ × ℕ)) → ascends xs ≡ true → ascends ys ≡ true → ((q : ℕ × ℕ) → has_pair xs q ≡ has_pair ys q) → xs ≡ ys
sorted_same [] [] up high alike = refl
sorted_same [] (y ∷ ys) up high alike = absurd (false≢true (alike y ∙ has_head y ys))
sorted_same (x ∷ xs) [] up high alike = absurd (false≢true (sym (alike x) ∙ has_head x xs))
sorted_same (x ∷ xs) (y ∷ ys) up high alike =
    let not_below : below x y ≡ false = refused (below x y) (λ h. false≢true (sym (lacks_lower x y ys h high) ∙ (sym (alike x) ∙ has_head x xs))) in
    let one : same_pair x y ≡ true = reached (same_pair x y) (λ e. false≢true (sym (lacks_lower y x xs (above x y not_below e) up) ∙ (alike y ∙ has_head y ys))) in
    let same = same_is x y one in
    let t = and_parts (list_all (below x) xs) (ascends xs) up in
    let u = and_parts (list_all (below y) ys) (ascends ys) high in
    ap (λ (z : ℕ × ℕ). z ∷ xs) same ∙ ap (λ (l : List (ℕ × ℕ)). y ∷ l) (sorted_same xs ys t.1 u.1 (λ q. rest same t.0 u.0 q (same_pair q x) refl))
  where
    reached : (b : Bool) → (b ≡ false → ⊥) → b ≡ true
    reached true gone = refl
    reached false gone = absurd (gone refl)

    rest : x ≡ y → list_all (below x) xs ≡ true → list_all (below y) ys ≡ true → (q : ℕ × ℕ) → (b : Bool) → same_pair q x ≡ b → has_pair xs q ≡ has_pair ys q
    rest same left right q true e =
        ap (has_pair xs) (same_is q x e) ∙ (lacks x xs left ∙ sym (ap (has_pair ys) (same_is q x e ∙ same) ∙ lacks y ys right))
    rest same left right q false e =
        let f : same_pair q y ≡ false = ap (same_pair q) (sym same) ∙ e in
        sym (ap (λ (b : Bool). b || has_pair xs q) e) ∙ (alike q ∙ ap (λ (b : Bool). b || has_pair ys q) f)

-- ---- what is kept of a list

all_kept : (p f : ℕ × ℕ → Bool) (xs : List (ℕ × ℕ)) → list_all p xs ≡ true → list_all p (filter f xs) ≡ true
all_kept p f [] all = refl
all_kept p f (x ∷ xs) all =
    let t = and_parts (p x) (list_all p xs) all in step t.0 (all_kept p f xs t.1) (f x)
  where
    step : p x ≡ true → list_all p (filter f xs) ≡ true → (b : Bool) → list_all p (cond b (x ∷ filter f xs) (filter f xs)) ≡ true
    step first later true = and_from (p x) (list_all p (filter f xs)) first later
    step first later false = later

filter_ascends : (f : ℕ × ℕ → Bool) (xs : List (ℕ × ℕ)) → ascends xs ≡ true → ascends (filter f xs) ≡ true
filter_ascends f [] up = refl
filter_ascends f (x ∷ xs) up =
    let t = and_parts (list_all (below x) xs) (ascends xs) up in step t.0 (filter_ascends f xs t.1) (f x)
  where
    step : list_all (below x) xs ≡ true → ascends (filter f xs) ≡ true → (b : Bool) → ascends (cond b (x ∷ filter f xs) (filter f xs)) ≡ true
    step first later true = and_from (list_all (below x) (filter f xs)) (ascends (filter f xs)) (all_kept (below x) f xs first) later
    step first later false = later

filter_has : (f : ℕ × ℕ → Bool) (xs : List (ℕ × ℕ)) (q : ℕ × ℕ) → has_pair (filter f xs) q ≡ (f q && has_pair xs q)
filter_has f [] q = sym (and_right (f q) false refl)
filter_has f (x ∷ xs) q = step (filter_has f xs q) (f x) (same_pair q x) refl refl
  where
    both : (a b : Bool) → a ≡ true → true ≡ (a && (true || b))
    both a b e = sym (and_from a true e refl)

    step : has_pair (filter f xs) q ≡ (f q && has_pair xs q) → (b c : Bool) → f x ≡ b → same_pair q x ≡ c →
        has_pair (cond b (x ∷ filter f xs) (filter f xs)) q ≡ (f q && (same_pair q x || has_pair xs q))
    step ih true true e g =
        ap (λ (t : Bool). t || has_pair (filter f xs) q) g ∙ (both (f q) (has_pair xs q) (ap f (same_is q x g) ∙ e) ∙ sym (ap (λ (t : Bool). f q && (t || has_pair xs q)) g))
    step ih true false e g = ap (λ (t : Bool). t || has_pair (filter f xs) q) g ∙ (ih ∙ sym (ap (λ (t : Bool). f q && (t || has_pair xs q)) g))
    step ih false true e g =
        let off : f q ≡ false = ap f (same_is q x g) ∙ e in
        ih ∙ (and_left (f q) (has_pair xs q) off ∙ sym (and_left (f q) (same_pair q x || has_pair xs q) off))
    step ih false false e g = ih ∙ sym (ap (λ (t : Bool). f q && (t || has_pair xs q)) g)

-- ---- each number with each

abbrev row : ℕ → List ℕ → List (ℕ × ℕ)
row x ys = map (λ y. (x, y)) ys

row_above : (x a b n : ℕ) → a < b → list_all (below (x, a)) (row x (range_with_len b n)) ≡ true
row_above x a b zero h = refl
row_above x a b (suc n) h =
    and_from (below (x, a) (x, b)) (list_all (below (x, a)) (row x (range_with_len (b + 1) n))) (below_second (x, a) (x, b) refl h) (row_above x a (b + 1) n (omega (arith, h)))

row_ascends : (x a n : ℕ) → ascends (row x (range_with_len a n)) ≡ true
row_ascends x a zero = refl
row_ascends x a (suc n) = and_from (list_all (below (x, a)) (row x (range_with_len (a + 1) n))) (ascends (row x (range_with_len (a + 1) n))) (row_above x a (a + 1) n (omega arith)) (row_ascends x (a + 1) n)

later_row : (p : ℕ × ℕ) (b : ℕ) (ys : List ℕ) → p.0 < b → list_all (below p) (row b ys) ≡ true
later_row p b [] h = refl
later_row p b (y ∷ ys) h = and_from (below p (b, y)) (list_all (below p) (row b ys)) (below_first p (b, y) h) (later_row p b ys h)

later_rows : (p : ℕ × ℕ) (b n : ℕ) (ys : List ℕ) → p.0 < b → list_all (below p) (flat_map (λ x. map (λ y. (x, y)) ys) (range_with_len b n)) ≡ true
later_rows p b zero ys h = refl
later_rows p b (suc n) ys h =
    let more : p.0 < b + 1 = omega (arith, h) in
    let rest : List (ℕ × ℕ) = flat_map (λ x. map (λ y. (x, y)) ys) (range_with_len (b + 1) n) in
    list_all-append (below p) (row b ys) rest ∙ and_from (list_all (below p) (row b ys)) (list_all (below p) rest) (later_row p b ys h) (later_rows p (b + 1) n ys more)

joined_ascends : (x : ℕ) (ys : List ℕ) (rest : List (ℕ × ℕ)) → ascends (row x ys) ≡ true → ascends rest ≡ true → ((p : ℕ × ℕ) → p.0 ≡ x → list_all (below p) rest ≡ true) → ascends (row x ys ++ rest) ≡ true
joined_ascends x [] rest up high over = high
joined_ascends x (y ∷ ys) rest up high over =
    let t = and_parts (list_all (below (x, y)) (row x ys)) (ascends (row x ys)) up in
    and_from (list_all (below (x, y)) (row x ys ++ rest)) (ascends (row x ys ++ rest))
    (list_all-append (below (x, y)) (row x ys) rest ∙ and_from (list_all (below (x, y)) (row x ys)) (list_all (below (x, y)) rest) t.0 (over (x, y) refl))
    (joined_ascends x ys rest t.1 high over)

rows_ascend : (b n m : ℕ) → ascends (flat_map (λ x. map (λ y. (x, y)) (range_with_len 0 m)) (range_with_len b n)) ≡ true
rows_ascend b zero m = refl
rows_ascend b (suc n) m =
    joined_ascends b (range_with_len 0 m) (flat_map (λ x. map (λ y. (x, y)) (range_with_len 0 m)) (range_with_len (b + 1) n)) (row_ascends b 0 m) (rows_ascend (b + 1) n m)
    (λ p e. later_rows p (b + 1) n (range_with_len 0 m) (omega (arith, e)))

has_in : (q : ℕ × ℕ) (xs : List (ℕ × ℕ)) → IsIn q xs → has_pair xs q ≡ true
has_in q [] h = absurd h
has_in q (x ∷ xs) (inl e) = or_left (same_pair q x) (has_pair xs q) (subst (λ (y : ℕ × ℕ). same_pair q y ≡ true) e (same_self q))
has_in q (x ∷ xs) (inr h) = or_right (same_pair q x) (has_pair xs q) (has_in q xs h)

-- the pairs that are put in, one by one, are those of all pairs that a test passes
pub kept_pairs : (f : ℕ × ℕ → Bool) (n : ℕ) (ps : List (ℕ × ℕ)) → ((q : ℕ × ℕ) → has_pair ps q ≡ f q) → ((q : ℕ × ℕ) → f q ≡ true → (q.0 < n) × (q.1 < n)) →
    with_pairs [] ps ≡ filter f (pairs_of (numbers_below n) (numbers_below n))
kept_pairs f n ps alike inside =
    let all = pairs_of (numbers_below n) (numbers_below n) in
    sorted_same (with_pairs [] ps) (filter f all) (with_ascends [] ps refl) (filter_ascends f all (rows_ascend 0 n n))
    (λ q. with_has [] ps q ∙ (alike q ∙ (narrowed q (f q) refl ∙ sym (filter_has f all q))))
  where
    narrowed : (q : ℕ × ℕ) (b : Bool) → f q ≡ b → f q ≡ (f q && has_pair (pairs_of (numbers_below n) (numbers_below n)) q)
    narrowed q true e =
        let t = inside q e in
        let there = has_in q (pairs_of (numbers_below n) (numbers_below n)) (in_pairs q.0 q.1 (numbers_below n) (numbers_below n) (in_numbers n q.0 t.0) (in_numbers n q.1 t.1)) in
        e ∙ sym (and_from (f q) (has_pair (pairs_of (numbers_below n) (numbers_below n)) q) e there)
    narrowed q false e = e ∙ sym (and_left (f q) (has_pair (pairs_of (numbers_below n) (numbers_below n)) q) e)
