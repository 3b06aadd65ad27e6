-- What two ranges leave of each other, and pairs of ranges.
use Rattle.std.proofs.Common.{◌≡◌, ℕ, ◌+◌, ◌-◌, ◌<◌, ◌≤◌, Bool, true, false, not, cond, ◌&&◌, List, length, length-append, map, refl, sym, ap, ◌∙◌, ⊎_elim, arith}
use Rattle.std.specs.Prelude.{Option, Some, None, nat_lt, nat_le}
use Rattle.std.proofs.lemmas.List.{length-map}
use Rattle.std.proofs.lemmas.Bool.{and_parts, and_from, cases_lt, leb-true, le-leb, ltb-true, lt-ltb, both_ways, false≢true, false_from_ne_true}
use Rattle.spoc_base.specs.Address.{Interval, within, interval_meets}
use Rattle.list_laws.proofs.Members.{same_truth}
use Rattle.list_laws.proofs.Sets.{in_parts, in_from}
use Rattle.spoc_base.specs.Pieces.{below, above, common, listed, outside, pairs_left}
use Rattle.piece_laws.proofs.Counting.{bit, times, times-append, times-map, times_and, times_and_before, Each, each-append, each-map}

-- ---- booleans

pub product : (s S x X : Bool) → cond x (bit (s && not S)) 0 + cond (s && S) (bit (x && not X)) 0 ≡ bit ((s && x) && not (S && X))
product true true true true = refl
product true true true false = refl
product true true false true = refl
product true true false false = refl
product true false true true = refl
product true false true false = refl
product true false false true = refl
product true false false false = refl
product false true true true = refl
product false true true false = refl
product false true false true = refl
product false true false false = refl
product false false true true = refl
product false false true false = refl
product false false false true = refl
product false false false false = refl

both_sides : (la lb ha hb : Bool) → (lb ≡ false → ha ≡ true) → (hb ≡ false → la ≡ true) → (lb ≡ false → hb ≡ false → ⊥) →
    bit (la && not lb) + bit (not hb && ha) ≡ bit ((la && ha) && not (lb && hb))
both_sides true true true true f g h = refl
both_sides true true true false f g h = refl
both_sides true true false true f g h = refl
both_sides true true false false f g h = refl
both_sides false true true true f g h = refl
both_sides false true true false f g h = absurd (false≢true (g refl))
both_sides false true false true f g h = refl
both_sides false true false false f g h = absurd (false≢true (g refl))
both_sides true false true true f g h = refl
both_sides true false true false f g h = absurd (h refl refl)
both_sides true false false true f g h = absurd (false≢true (f refl))
both_sides true false false false f g h = absurd (h refl refl)
both_sides false false true true f g h = refl
both_sides false false true false f g h = absurd (h refl refl)
both_sides false false false true f g h = absurd (false≢true (f refl))
both_sides false false false false f g h = absurd (h refl refl)

pub regroup : (a b c d : Bool) → ((a && b) && (c && d)) ≡ ((a && c) && (b && d))
regroup true true c d = refl
regroup true false true d = refl
regroup true false false d = refl
regroup false b c d = refl

-- ---- two ranges

not_le : (m n : ℕ) → nat_lt m n ≡ not (nat_le n m)
not_le m n = ⊎_elim
    (λ (lt : m < n). lt-ltb m n lt ∙ sym (ap not (false_from_ne_true (nat_le n m) (λ t. let x = leb-true n m t in let z : ⊥ = omega arith in z))))
    (λ (le : n ≤ m). false_from_ne_true (nat_lt m n) (λ t. let x = ltb-true m n t in let z : ⊥ = omega arith in z) ∙ sym (ap not (le-leb n m le)))
    (cases_lt m n)

single : (b : Bool) → bit b + 0 ≡ bit b
single true = refl
single false = refl

below_times : (a b : Interval) (n : ℕ) → times (λ r. within r n) (listed (below a b)) ≡ bit (nat_le a.first n && nat_lt n b.first)
below_times a b n = go (nat_lt a.first b.first) refl
  where
    part : Interval
    part = record { first = a.first; last = b.first - 1 }

    go : (c : Bool) → nat_lt a.first b.first ≡ c → times (λ r. within r n) (listed (cond c (Some part) None)) ≡ bit (nat_le a.first n && nat_lt n b.first)
    go true e =
        let lt = ltb-true a.first b.first e in
        single (within part n) ∙ ap bit (same_truth (within part n) (nat_le a.first n && nat_lt n b.first)
        (λ t. let w = in_parts part n t in let x = w.low in let y = w.high in and_from (nat_le a.first n) (nat_lt n b.first) (le-leb a.first n x) (lt-ltb n b.first (omega (arith, y, lt))))
        (λ t. let w = and_parts (nat_le a.first n) (nat_lt n b.first) t in let x = leb-true a.first n w.0 in let y = ltb-true n b.first w.1 in in_from part n x (omega (arith, y))))
    go false e = sym (ap bit (false_from_ne_true (nat_le a.first n && nat_lt n b.first)
        (λ t. let w = and_parts (nat_le a.first n) (nat_lt n b.first) t in let x = leb-true a.first n w.0 in let y = ltb-true n b.first w.1 in both_ways (nat_lt a.first b.first) e (lt-ltb a.first b.first (omega (arith, x, y))))))

above_times : (a b : Interval) (n : ℕ) → times (λ r. within r n) (listed (above a b)) ≡ bit (nat_lt b.last n && nat_le n a.last)
above_times a b n = go (nat_lt b.last a.last) refl
  where
    part : Interval
    part = record { first = b.last + 1; last = a.last }

    go : (c : Bool) → nat_lt b.last a.last ≡ c → times (λ r. within r n) (listed (cond c (Some part) None)) ≡ bit (nat_lt b.last n && nat_le n a.last)
    go true e =
        single (within part n) ∙ ap bit (same_truth (within part n) (nat_lt b.last n && nat_le n a.last)
        (λ t. let w = in_parts part n t in let x = w.low in let y = w.high in and_from (nat_lt b.last n) (nat_le n a.last) (lt-ltb b.last n (omega (arith, x))) (le-leb n a.last y))
        (λ t. let w = and_parts (nat_lt b.last n) (nat_le n a.last) t in let x = ltb-true b.last n w.0 in let y = leb-true n a.last w.1 in in_from part n (omega (arith, x)) y))
    go false e = sym (ap bit (false_from_ne_true (nat_lt b.last n && nat_le n a.last)
        (λ t. let w = and_parts (nat_lt b.last n) (nat_le n a.last) t in let x = ltb-true b.last n w.0 in let y = leb-true n a.last w.1 in both_ways (nat_lt b.last a.last) e (lt-ltb b.last a.last (omega (arith, x, y))))))

le_not : (m n : ℕ) → nat_le m n ≡ false → n < m
le_not m n e = ⊎_elim (λ (lt : n < m). lt) (λ (le : m ≤ n). absurd (both_ways (nat_le m n) e (le-leb m n le))) (cases_lt n m)

pub outside_times : (a b : Interval) (n : ℕ) → b.first ≤ b.last → interval_meets a b ≡ true → times (λ r. within r n) (outside a b) ≡ bit (within a n && not (within b n))
outside_times a b n ordered m =
    let w = and_parts (nat_le a.first b.last) (nat_le b.first a.last) m in
    let p = leb-true a.first b.last w.0 in
    let q = leb-true b.first a.last w.1 in
    times-append (λ r. within r n) (listed (below a b)) (listed (above a b))
    ∙ (ap (λ k. k + times (λ r. within r n) (listed (above a b))) (below_times a b n ∙ ap (λ c. bit (nat_le a.first n && c)) (not_le n b.first))
    ∙ (ap (λ k. bit (nat_le a.first n && not (nat_le b.first n)) + k) (above_times a b n ∙ ap (λ c. bit (c && nat_le n a.last)) (not_le b.last n))
    ∙ both_sides (nat_le a.first n) (nat_le b.first n) (nat_le n a.last) (nat_le n b.last)
    (λ e. let x = le_not b.first n e in le-leb n a.last (omega arith))
    (λ e. let x = le_not n b.last e in le-leb a.first n (omega arith))
    (λ e f. let x = le_not b.first n e in let y = le_not n b.last f in let z : ⊥ = omega arith in z)))

greater_le : (x y n : ℕ) → nat_le (cond (nat_lt x y) y x) n ≡ (nat_le x n && nat_le y n)
greater_le x y n = go (nat_lt x y) refl
  where
    go : (c : Bool) → nat_lt x y ≡ c → nat_le (cond c y x) n ≡ (nat_le x n && nat_le y n)
    go true e = let lt = ltb-true x y e in same_truth (nat_le y n) (nat_le x n && nat_le y n)
        (λ t. let k = leb-true y n t in and_from (nat_le x n) (nat_le y n) (le-leb x n (omega (arith, k, lt))) t) (λ t. (and_parts (nat_le x n) (nat_le y n) t).1)
    go false e = same_truth (nat_le x n) (nat_le x n && nat_le y n)
        (λ t. let k = leb-true x n t in and_from (nat_le x n) (nat_le y n) t (le-leb y n (⊎_elim (λ (lt : x < y). absurd (both_ways (nat_lt x y) e (lt-ltb x y lt))) (λ (le : y ≤ x). omega (arith, le, k)) (cases_lt x y))))
        (λ t. (and_parts (nat_le x n) (nat_le y n) t).0)

le_lesser : (x y n : ℕ) → nat_le n (cond (nat_lt y x) y x) ≡ (nat_le n x && nat_le n y)
le_lesser x y n = go (nat_lt y x) refl
  where
    go : (c : Bool) → nat_lt y x ≡ c → nat_le n (cond c y x) ≡ (nat_le n x && nat_le n y)
    go true e = let lt = ltb-true y x e in same_truth (nat_le n y) (nat_le n x && nat_le n y)
        (λ t. let k = leb-true n y t in and_from (nat_le n x) (nat_le n y) (le-leb n x (omega (arith, k, lt))) t) (λ t. (and_parts (nat_le n x) (nat_le n y) t).1)
    go false e = same_truth (nat_le n x) (nat_le n x && nat_le n y)
        (λ t. let k = leb-true n x t in and_from (nat_le n x) (nat_le n y) t (le-leb n y (⊎_elim (λ (lt : y < x). absurd (both_ways (nat_lt y x) e (lt-ltb y x lt))) (λ (le : x ≤ y). omega (arith, le, k)) (cases_lt y x))))
        (λ t. (and_parts (nat_le n x) (nat_le n y) t).0)

pub within_common : (a b : Interval) (n : ℕ) → within (common a b) n ≡ (within a n && within b n)
within_common a b n =
    ap (λ c. c && nat_le n (common a b).last) (greater_le a.first b.first n)
    ∙ (ap (λ c. (nat_le a.first n && nat_le b.first n) && c) (le_lesser a.last b.last n)
    ∙ regroup (nat_le a.first n) (nat_le b.first n) (nat_le n a.last) (nat_le n b.last))

-- ---- pairs

pub pairs_times : (src dst s d : Interval) (x y : ℕ) → s.first ≤ s.last → d.first ≤ d.last → interval_meets src s ≡ true → interval_meets dst d ≡ true →
    times (λ p. within p.0 x && within p.1 y) (pairs_left src dst s d) ≡ bit ((within src x && within dst y) && not (within s x && within d y))
pairs_times src dst s d x y hs hd ms md =
    let holds : (Interval × Interval) → Bool = λ p. within p.0 x && within p.1 y in
    times-append holds (map (λ r. (r, dst)) (outside src s)) (map (λ r. (common src s, r)) (outside dst d))
    ∙ (ap (λ k. k + times holds (map (λ r. (common src s, r)) (outside dst d)))
    (times-map holds (λ r. (r, dst)) (outside src s) ∙ (times_and (λ r. within r x) (within dst y) (outside src s) ∙ ap (λ k. cond (within dst y) k 0) (outside_times src s x hs ms)))
    ∙ (ap (λ k. cond (within dst y) (bit (within src x && not (within s x))) 0 + k)
    (times-map holds (λ r. (common src s, r)) (outside dst d) ∙ (times_and_before (λ r. within r y) (within (common src s) x) (outside dst d)
    ∙ (ap (λ c. cond c (times (λ r. within r y) (outside dst d)) 0) (within_common src s x) ∙ ap (λ k. cond (within src x && within s x) k 0) (outside_times dst d y hd md))))
    ∙ product (within src x) (within s x) (within dst y) (within d y)))

-- ---- how many, and where they lie

listed_few : {A : Type 0} (o : Option A) → length (listed o) ≤ 1
listed_few None = omega arith
listed_few (Some x) = omega arith

outside_few : (a b : Interval) → length (outside a b) ≤ 2
outside_few a b = let e = length-append (listed (below a b)) (listed (above a b)) in let f = listed_few (below a b) in let g = listed_few (above a b) in omega (arith, e, f, g)

pub pairs_few : (src dst s d : Interval) → length (pairs_left src dst s d) ≤ 4
pairs_few src dst s d =
    let front : List (Interval × Interval) = map (λ x. (x, dst)) (outside src s) in
    let back : List (Interval × Interval) = map (λ y. (common src s, y)) (outside dst d) in
    let e = length-append front back in
    let f : length front ≡ length (outside src s) = length-map (outside src s) (λ x. (x, dst)) in
    let g : length back ≡ length (outside dst d) = length-map (outside dst d) (λ y. (common src s, y)) in
    let k = outside_few src s in let l = outside_few dst d in omega (arith, e, f, g, k, l)

-- a range within the other
pub record IsPart (whole part : Interval) : Type 0 where
  pub low : whole.first ≤ part.first
  pub ordered : part.first ≤ part.last
  pub high : part.last ≤ whole.last

below_part : (a b : Interval) → b.first ≤ a.last → Each (IsPart a) (listed (below a b))
below_part a b m = go (nat_lt a.first b.first) refl
  where
    go : (c : Bool) → nat_lt a.first b.first ≡ c → Each (IsPart a) (listed (cond c (Some (record { first = a.first; last = b.first - 1 })) None))
    go true e = let lt = ltb-true a.first b.first e in (record { low = omega arith; ordered = omega (arith, lt); high = omega (arith, m) }, tt)
    go false e = tt

above_part : (a b : Interval) → a.first ≤ b.last → Each (IsPart a) (listed (above a b))
above_part a b m = go (nat_lt b.last a.last) refl
  where
    go : (c : Bool) → nat_lt b.last a.last ≡ c → Each (IsPart a) (listed (cond c (Some (record { first = b.last + 1; last = a.last })) None))
    go true e = let lt = ltb-true b.last a.last e in (record { low = omega (arith, m); ordered = omega (arith, lt); high = omega arith }, tt)
    go false e = tt

outside_parts : (a b : Interval) → interval_meets a b ≡ true → Each (IsPart a) (outside a b)
outside_parts a b m =
    let w = and_parts (nat_le a.first b.last) (nat_le b.first a.last) m in
    each-append (IsPart a) (listed (below a b)) (listed (above a b)) (below_part a b (leb-true b.first a.last w.1)) (above_part a b (leb-true a.first b.last w.0))

pub common_part : (a b : Interval) → a.first ≤ a.last → b.first ≤ b.last → interval_meets a b ≡ true → IsPart a (common a b)
common_part a b ha hb m = go (nat_lt a.first b.first) (nat_lt b.last a.last) refl refl
  where
    go : (c d : Bool) → nat_lt a.first b.first ≡ c → nat_lt b.last a.last ≡ d → IsPart a (record { first = cond c b.first a.first; last = cond d b.last a.last })
    go true true e f = let x = ltb-true a.first b.first e in let y = ltb-true b.last a.last f in record { low = omega (arith, x); ordered = hb; high = omega (arith, y) }
    go true false e f = let x = ltb-true a.first b.first e in record { low = omega (arith, x); ordered = leb-true b.first a.last (and_parts (nat_le a.first b.last) (nat_le b.first a.last) m).1; high = omega arith }
    go false true e f = let y = ltb-true b.last a.last f in record { low = omega arith; ordered = leb-true a.first b.last (and_parts (nat_le a.first b.last) (nat_le b.first a.last) m).0; high = omega (arith, y) }
    go false false e f = record { low = omega arith; ordered = ha; high = omega arith }

-- both ranges of a pair within those of the whole
pub record ArePair (src dst : Interval) (p : Interval × Interval) : Type 0 where
  pub src_part : IsPart src p.0
  pub dst_part : IsPart dst p.1

pub pairs_are : (src dst s d : Interval) → src.first ≤ src.last → dst.first ≤ dst.last → s.first ≤ s.last → interval_meets src s ≡ true → interval_meets dst d ≡ true →
    Each (ArePair src dst) (pairs_left src dst s d)
pairs_are src dst s d hsrc hdst hs ms md =
    each-append (ArePair src dst) (map (λ x. (x, dst)) (outside src s)) (map (λ y. (common src s, y)) (outside dst d))
    (each-map (IsPart src) (ArePair src dst) (λ x. (x, dst)) (outside src s) (λ x h. record { src_part = h; dst_part = record { low = omega arith; ordered = hdst; high = omega arith } }) (outside_parts src s ms))
    (each-map (IsPart dst) (ArePair src dst) (λ y. (common src s, y)) (outside dst d) (λ y h. record { src_part = common_part src s hsrc hs ms; dst_part = h }) (outside_parts dst d md))
