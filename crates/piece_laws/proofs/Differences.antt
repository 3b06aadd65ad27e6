-- The pieces of a difference hold each header of it once, and no other.
use Rattle.std.proofs.Common.{◌≡◌, ◌+◌, ◌≤◌, Bool, true, false, not, cond, ◌&&◌, List, [], ◌∷◌, length, length-append, map, refl, ap, ◌∙◌, arith}
use Rattle.std.specs.List.{AllPairs}
use Rattle.std.proofs.lemmas.List.{length-map}
use Rattle.std.proofs.lemmas.List.Kept.{AllPairs-cons}
use Rattle.std.proofs.lemmas.Bool.{and_parts, both_ways, false_from_ne_true}
use Rattle.spoc_base.specs.Address.{Interval, within, interval_meets}
use Rattle.spoc_base.specs.Boxes.{IsTransport, box_holds, box_meets}
use Rattle.policy_model.specs.Packets.{Header}
use Rattle.list_laws.proofs.Ranges.{all_from}
use Rattle.spoc_base.specs.Pieces.{HeaderBox, header_box_meets, common, pairs_left, transports_left, box_between, sides_left, pieces_left, difference}
use Rattle.spoc_base.specs.PlainSets.{IsUnmarked, IsPlainSet}
use Rattle.piece_laws.specs.HeaderBoxes.{IsHeader, IsAddressRange, IsHeaderBox, header_box_holds}
use Rattle.piece_laws.specs.Differences.{IsDifference}
use Rattle.piece_laws.proofs.Counting.{bit, times, times-append, times-map, times_and, times_and_before, times_in, any_is, Each, each-append, each-map, all_of_each, each_in}
use Rattle.piece_laws.proofs.Sides.{product, regroup, within_common, pairs_times, pairs_few, IsPart, ArePair, pairs_are, common_part}
use Rattle.piece_laws.proofs.Remains.{transports_times}
use Rattle.piece_laws.proofs.Bounds.{transports_few, transports_good}
use Rattle.piece_laws.proofs.Inclusion.{some_header, meet_at}

-- ---- each header once

-- both ranges ascend
pub record IsAscending (b : HeaderBox) : Type 0 where
  pub src : b.src.first ≤ b.src.last
  pub dst : b.dst.first ≤ b.dst.last

pieces_times : (a b : HeaderBox) (h : Header) → IsTransport h.transport → IsAscending b → IsPlainSet a.transport → IsPlainSet b.transport → header_box_meets a b ≡ true →
    times (λ p. header_box_holds p h) (pieces_left a b) ≡ bit (header_box_holds a h && not (header_box_holds b h))
pieces_times a b h proper hb ga gb m =
    let holds : HeaderBox → Bool = λ p. header_box_holds p h in
    let w = and_parts (interval_meets a.src b.src && interval_meets a.dst b.dst) (box_meets a.transport b.transport) m in
    let v = and_parts (interval_meets a.src b.src) (interval_meets a.dst b.dst) w.0 in
    let in_a = within a.src h.src && within a.dst h.dst in
    let in_b = within b.src h.src && within b.dst h.dst in
    let t = box_holds a.transport h.transport in
    let u = box_holds b.transport h.transport in
    let pairs = pairs_left a.src a.dst b.src b.dst in
    let left = transports_left a.transport b.transport in
    let back = map (box_between (common a.src b.src) (common a.dst b.dst)) left in
    let both = λ (p : Interval × Interval). within p.0 h.src && within p.1 h.dst in
    let middle = within (common a.src b.src) h.src && within (common a.dst b.dst) h.dst in
    let sides : times holds (sides_left a b) ≡ cond t (bit (in_a && not in_b)) 0 =
    times-map holds (λ p. box_between p.0 p.1 a.transport) pairs
    ∙ (times_and both t pairs ∙ ap (λ n. cond t n 0) (pairs_times a.src a.dst b.src b.dst h.src h.dst hb.src hb.dst v.0 v.1)) in
    let shared : middle ≡ (in_a && in_b) =
    ap (λ c. c && within (common a.dst b.dst) h.dst) (within_common a.src b.src h.src)
    ∙ (ap (λ c. (within a.src h.src && within b.src h.src) && c) (within_common a.dst b.dst h.dst)
    ∙ regroup (within a.src h.src) (within b.src h.src) (within a.dst h.dst) (within b.dst h.dst)) in
    let rest : times holds back ≡ cond (in_a && in_b) (bit (t && not u)) 0 =
    times-map holds (box_between (common a.src b.src) (common a.dst b.dst)) left
    ∙ (times_and_before (λ x. box_holds x h.transport) middle left
    ∙ (ap (λ c. cond c (times (λ x. box_holds x h.transport) left) 0) shared
    ∙ ap (λ n. cond (in_a && in_b) n 0) (transports_times a.transport b.transport h.transport proper ga gb w.1))) in
    times-append holds (sides_left a b) back
    ∙ (ap (λ n. n + times holds back) sides ∙ (ap (λ n. cond t (bit (in_a && not in_b)) 0 + n) rest ∙ product in_a in_b t u))

alone_bits : (x y : Bool) → (x ≡ true → y ≡ true → ⊥) → bit x + 0 ≡ bit (x && not y)
alone_bits true true f = absurd (f refl refl)
alone_bits true false f = refl
alone_bits false y f = refl

pub difference_times : (a b : HeaderBox) (h : Header) → IsTransport h.transport → IsAscending b → IsPlainSet a.transport → IsPlainSet b.transport →
    times (λ p. header_box_holds p h) (difference a b) ≡ bit (header_box_holds a h && not (header_box_holds b h))
difference_times a b h proper hb ga gb = go (header_box_meets a b) refl
  where
    go : (c : Bool) → header_box_meets a b ≡ c → times (λ p. header_box_holds p h) (cond c (pieces_left a b) (a ∷ [])) ≡ bit (header_box_holds a h && not (header_box_holds b h))
    go true e = pieces_times a b h proper hb ga gb e
    go false e = alone_bits (header_box_holds a h) (header_box_holds b h) (λ x y. both_ways (header_box_meets a b) e (meet_at a b h x y))

-- ---- proper pieces

part_of_range : (whole part : Interval) → IsAddressRange whole → IsPart whole part → IsAddressRange part
part_of_range whole part h k = let x = h.small in let y = k.high in record { ordered = k.ordered; small = omega (arith, x, y) }

-- a proper box without the mark
record IsPiece (p : HeaderBox) : Type 0 where
  proper : IsHeaderBox p
  unmarked : IsUnmarked p.transport

sides_are : (a b : HeaderBox) → IsHeaderBox a → IsHeaderBox b → IsUnmarked a.transport → interval_meets a.src b.src ≡ true → interval_meets a.dst b.dst ≡ true → Each IsPiece (sides_left a b)
sides_are a b ha hb ua ms md =
    each-map (ArePair a.src a.dst) IsPiece (λ p. box_between p.0 p.1 a.transport) (pairs_left a.src a.dst b.src b.dst)
    (λ p k. record {
      proper = record { src = part_of_range a.src p.0 ha.src k.src_part; dst = part_of_range a.dst p.1 ha.dst k.dst_part; transport = ha.transport; set = ha.set };
      unmarked = ua;
    })
    (pairs_are a.src a.dst b.src b.dst ha.src.ordered ha.dst.ordered hb.src.ordered ms md)

rest_are : (a b : HeaderBox) → IsHeaderBox a → IsHeaderBox b → IsUnmarked a.transport → interval_meets a.src b.src ≡ true → interval_meets a.dst b.dst ≡ true → box_meets a.transport b.transport ≡ true →
    Each IsPiece (map (box_between (common a.src b.src) (common a.dst b.dst)) (transports_left a.transport b.transport))
rest_are a b ha hb ua ms md mt =
    let s = part_of_range a.src (common a.src b.src) ha.src (common_part a.src b.src ha.src.ordered hb.src.ordered ms) in
    let d = part_of_range a.dst (common a.dst b.dst) ha.dst (common_part a.dst b.dst ha.dst.ordered hb.dst.ordered md) in
    each-map IsPlainSet IsPiece (box_between (common a.src b.src) (common a.dst b.dst)) (transports_left a.transport b.transport)
    (λ t g. record { proper = record { src = s; dst = d; transport = g.box; set = g.set }; unmarked = g.unmarked })
    (transports_good a.transport b.transport (record { box = ha.transport; set = ha.set; unmarked = ua }) hb.transport mt)

are_pieces : (a b : HeaderBox) → IsHeaderBox a → IsHeaderBox b → IsUnmarked a.transport → Each IsPiece (difference a b)
are_pieces a b ha hb ua = go (header_box_meets a b) refl
  where
    go : (c : Bool) → header_box_meets a b ≡ c → Each IsPiece (cond c (pieces_left a b) (a ∷ []))
    go true e =
        let w = and_parts (interval_meets a.src b.src && interval_meets a.dst b.dst) (box_meets a.transport b.transport) e in
        let v = and_parts (interval_meets a.src b.src) (interval_meets a.dst b.dst) w.0 in
        each-append IsPiece (sides_left a b) (map (box_between (common a.src b.src) (common a.dst b.dst)) (transports_left a.transport b.transport))
        (sides_are a b ha hb ua v.0 v.1) (rest_are a b ha hb ua v.0 v.1 w.1)
    go false e = (record { proper = ha; unmarked = ua }, tt)

-- ---- parts of ranges

-- both ranges of a box within those of the other
pub record IsBoxPart (whole part : HeaderBox) : Type 0 where
  pub src : IsPart whole.src part.src
  pub dst : IsPart whole.dst part.dst

whole_part : (r : Interval) → r.first ≤ r.last → IsPart r r
whole_part r h = record { low = omega arith; ordered = h; high = omega arith }

each_mapped : {A B : Type 0} (Q : B → Type 0) (f : A → B) (xs : List A) → ((x : A) → Q (f x)) → Each Q (map f xs)
each_mapped Q f [] h = tt
each_mapped Q f (x ∷ xs) h = (h x, each_mapped Q f xs h)

pub difference_parts : (a b : HeaderBox) → IsAscending a → IsAscending b → Each (IsBoxPart a) (difference a b)
difference_parts a b ha hb = go (header_box_meets a b) refl
  where
    go : (c : Bool) → header_box_meets a b ≡ c → Each (IsBoxPart a) (cond c (pieces_left a b) (a ∷ []))
    go true e =
        let w = and_parts (interval_meets a.src b.src && interval_meets a.dst b.dst) (box_meets a.transport b.transport) e in
        let v = and_parts (interval_meets a.src b.src) (interval_meets a.dst b.dst) w.0 in
        let back = box_between (common a.src b.src) (common a.dst b.dst) in
        each-append (IsBoxPart a) (sides_left a b) (map back (transports_left a.transport b.transport))
        (each-map (ArePair a.src a.dst) (IsBoxPart a) (λ p. box_between p.0 p.1 a.transport) (pairs_left a.src a.dst b.src b.dst) (λ p k. record { src = k.src_part; dst = k.dst_part })
        (pairs_are a.src a.dst b.src b.dst ha.src ha.dst hb.src v.0 v.1))
        (each_mapped (IsBoxPart a) back (transports_left a.transport b.transport)
        (λ t. record { src = common_part a.src b.src ha.src hb.src v.0; dst = common_part a.dst b.dst ha.dst hb.dst v.1 }))
    go false e = (record { src = whole_part a.src ha.src; dst = whole_part a.dst ha.dst }, tt)

-- ---- plain sets

pub difference_plain : (a b : HeaderBox) → IsPlainSet a.transport → IsPlainSet b.transport → Each (λ p. IsPlainSet p.transport) (difference a b)
difference_plain a b ga gb = go (header_box_meets a b) refl
  where
    go : (c : Bool) → header_box_meets a b ≡ c → Each (λ p. IsPlainSet p.transport) (cond c (pieces_left a b) (a ∷ []))
    go true e =
        let w = and_parts (interval_meets a.src b.src && interval_meets a.dst b.dst) (box_meets a.transport b.transport) e in
        let back = box_between (common a.src b.src) (common a.dst b.dst) in
        each-append (λ p. IsPlainSet p.transport) (sides_left a b) (map back (transports_left a.transport b.transport))
        (each_mapped (λ p. IsPlainSet p.transport) (λ p. box_between p.0 p.1 a.transport) (pairs_left a.src a.dst b.src b.dst) (λ p. ga))
        (each-map IsPlainSet (λ p. IsPlainSet p.transport) back (transports_left a.transport b.transport) (λ t g. g)
        (transports_good a.transport b.transport ga gb.box w.1))
    go false e = (ga, tt)

-- ---- how many

are_few : (a b : HeaderBox) → IsHeaderBox b → length (difference a b) ≤ 768
are_few a b hb = go (header_box_meets a b)
  where
    go : (c : Bool) → length (cond c (pieces_left a b) (a ∷ [])) ≤ 768
    go true =
        let pairs = pairs_left a.src a.dst b.src b.dst in
        let left = transports_left a.transport b.transport in
        let back = map (box_between (common a.src b.src) (common a.dst b.dst)) left in
        let e = length-append (sides_left a b) back in
        let f : length (sides_left a b) ≡ length pairs = length-map pairs (λ p. box_between p.0 p.1 a.transport) in
        let g : length back ≡ length left = length-map left (box_between (common a.src b.src) (common a.dst b.dst)) in
        let k = pairs_few a.src a.dst b.src b.dst in
        let l = transports_few a.transport b.transport hb.transport in
        omega (arith, e, f, g, k, l)
    go false = omega arith

-- ---- no two of them meet

at_most_once : (b : Bool) → bit b ≤ 1
at_most_once true = omega arith
at_most_once false = omega arith

apart : (ps : List HeaderBox) → Each IsPiece ps → ((h : Header) → IsHeader h → times (λ p. header_box_holds p h) ps ≤ 1) → AllPairs (λ p q. header_box_meets p q ≡ false) ps
apart [] each once = λ i j d lt below. absurd (let z : ⊥ = omega arith in z)
apart (p ∷ ps) each once =
    AllPairs-cons (λ x y. header_box_meets x y ≡ false) p ps
    (all_from (λ q. header_box_meets p q ≡ false) ps (λ q i. false_from_ne_true (header_box_meets p q) (λ m.
    let w = some_header p q each.0.proper (each_in IsPiece ps q each.1 i).proper m in
    let n = times_in (λ x. header_box_holds x w.header) q ps i w.second in
    let e = once w.header w.proper in
    let f = ap bit w.first in
    let z : ⊥ = omega (arith, n, e, f) in z)))
    (apart ps each.1 (λ h k. let e = once h k in omega (arith, e)))

pub is_difference : (a b : HeaderBox) → IsHeaderBox a → IsHeaderBox b → IsUnmarked a.transport → IsUnmarked b.transport → IsDifference a b (difference a b)
is_difference a b ha hb ua ub =
    let each = are_pieces a b ha hb ua in
    let up : IsAscending b = record { src = hb.src.ordered; dst = hb.dst.ordered } in
    let ga : IsPlainSet a.transport = record { box = ha.transport; set = ha.set; unmarked = ua } in
    let gb : IsPlainSet b.transport = record { box = hb.transport; set = hb.set; unmarked = ub } in
    record {
      exact = λ h k. any_is (λ p. header_box_holds p h) (difference a b) (header_box_holds a h && not (header_box_holds b h)) (difference_times a b h k.transport up ga gb);
      disjoint = apart (difference a b) each (λ h k. let e = difference_times a b h k.transport up ga gb in let f = at_most_once (header_box_holds a h && not (header_box_holds b h)) in omega (arith, e, f));
      proper = all_of_each IsHeaderBox (difference a b) (each-only (λ p k. k.proper) (difference a b) each);
      unmarked = all_of_each (λ p. IsUnmarked p.transport) (difference a b) (each-only (λ p k. k.unmarked) (difference a b) each);
      few = are_few a b hb;
    }
  where
    each-only : {Q : HeaderBox → Type 0} → ((p : HeaderBox) → IsPiece p → Q p) → (ps : List HeaderBox) → Each IsPiece ps → Each Q ps
    each-only f [] h = tt
    each-only f (p ∷ ps) h = (f p h.0, each-only f ps h.1)
