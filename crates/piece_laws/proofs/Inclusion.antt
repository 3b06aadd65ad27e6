-- The tests by parts are exact: covering is inclusion, and meeting is having a common header.
use Rattle.std.proofs.Common.{◌≡◌, ℕ, ◌<◌, ◌≤◌, Bool, true, ◌&&◌, sym, subst, ⊎_elim, arith}
use Rattle.std.specs.Prelude.{◌↔◌, IsTrue, nat_le}
use Rattle.std.proofs.lemmas.Bool.{and_parts, and_from, cases_lt, leb-true}
use Rattle.spoc_base.specs.Address.{Interval, within, interval_covers, interval_meets}
use Rattle.spoc_base.specs.Boxes.{IsTransport, box_holds, box_covers, box_meets}
use Rattle.spoc_base.specs.declared.transport.Transport.{Transport}
use Rattle.policy_model.specs.Packets.{Header}
use Rattle.list_laws.proofs.Sets.{in_parts, in_from, covers_from, covered_within, covered_holds, meets_from, both_hold}
use Rattle.list_laws.proofs.ExactSets.{some_held, covers_all_held, met_held}
use Rattle.spoc_base.specs.Pieces.{HeaderBox, header_box_meets}
use Rattle.piece_laws.specs.HeaderBoxes.{header_box_holds, header_box_covers, IsAddressRange, IsHeaderBox, HoldsAll, HoldBoth}

pub record Parts (b : HeaderBox) (h : Header) : Type 0 where
  pub src : within b.src h.src ≡ true
  pub dst : within b.dst h.dst ≡ true
  pub transport : box_holds b.transport h.transport ≡ true

pub parts_of : (b : HeaderBox) (h : Header) → header_box_holds b h ≡ true → Parts b h
parts_of b h e =
    let w = and_parts (within b.src h.src && within b.dst h.dst) (box_holds b.transport h.transport) e in
    let v = and_parts (within b.src h.src) (within b.dst h.dst) w.0 in
    record { src = v.0; dst = v.1; transport = w.1 }

pub from_parts : (b : HeaderBox) (h : Header) → within b.src h.src ≡ true → within b.dst h.dst ≡ true → box_holds b.transport h.transport ≡ true → header_box_holds b h ≡ true
from_parts b h s d t =
    and_from (within b.src h.src && within b.dst h.dst) (box_holds b.transport h.transport) (and_from (within b.src h.src) (within b.dst h.dst) s d) t

first_in : (r : Interval) → IsAddressRange r → within r r.first ≡ true
first_in r h = let x = h.ordered in in_from r r.first (omega arith) x

last_in : (r : Interval) → IsAddressRange r → within r r.last ≡ true
last_in r h = let x = h.ordered in in_from r r.last x (omega arith)

first_small : (r : Interval) → IsAddressRange r → r.first < 4294967296
first_small r h = let x = h.ordered in let y = h.small in omega arith

-- ---- covering

holds_all : (a b : HeaderBox) → IsTrue (header_box_covers a b) → HoldsAll a b
holds_all a b c h proper held =
    let w = and_parts (interval_covers a.src b.src && interval_covers a.dst b.dst) (box_covers a.transport b.transport) c in
    let v = and_parts (interval_covers a.src b.src) (interval_covers a.dst b.dst) w.0 in
    let p = parts_of b h held in
    from_parts a h (covered_within a.src b.src h.src v.0 p.src) (covered_within a.dst b.dst h.dst v.1 p.dst) (covered_holds a.transport b.transport h.transport w.1 p.transport)

module _ (a b : HeaderBox) (proper : IsHeaderBox b) (all : HoldsAll a b) where
  at : (s d : ℕ) (t : Transport) → s < 4294967296 → d < 4294967296 → IsTransport t → within b.src s ≡ true → within b.dst d ≡ true → box_holds b.transport t ≡ true →
      Parts a (record { src = s; dst = d; transport = t })
  at s d t ss ds ts hs hd ht =
      let h : Header = record { src = s; dst = d; transport = t } in
      parts_of a h (all h (record { src = ss; dst = ds; transport = ts }) (from_parts b h hs hd ht))

  covers_it : IsTrue (header_box_covers a b)
  covers_it =
      let k = some_held b.transport proper.transport in
      let ps = proper.src in let pd = proper.dst in
      let low = at b.src.first b.dst.first k.transport (first_small b.src ps) (first_small b.dst pd) k.proper (first_in b.src ps) (first_in b.dst pd) k.held in
      let high = at b.src.last b.dst.last k.transport ps.small pd.small k.proper (last_in b.src ps) (last_in b.dst pd) k.held in
      let src = covers_from a.src b.src (in_parts a.src b.src.first low.src).low (in_parts a.src b.src.last high.src).high in
      let dst = covers_from a.dst b.dst (in_parts a.dst b.dst.first low.dst).low (in_parts a.dst b.dst.last high.dst).high in
      let transport = covers_all_held a.transport b.transport proper.transport
      (λ t ts ht. (at b.src.first b.dst.first t (first_small b.src ps) (first_small b.dst pd) ts (first_in b.src ps) (first_in b.dst pd) ht).transport) in
      and_from (interval_covers a.src b.src && interval_covers a.dst b.dst) (box_covers a.transport b.transport)
      (and_from (interval_covers a.src b.src) (interval_covers a.dst b.dst) src dst) transport

pub covering_exact : (a b : HeaderBox) → IsHeaderBox b → (IsTrue (header_box_covers a b) ↔ HoldsAll a b)
covering_exact a b proper = (holds_all a b, covers_it a b proper)

-- ---- meeting

record AddressOfBoth (a b : Interval) : Type 0 where
  address : ℕ
  small : address < 4294967296
  first : within a address ≡ true
  second : within b address ≡ true

address_of_both : (a b : Interval) → IsAddressRange a → IsAddressRange b → interval_meets a b ≡ true → AddressOfBoth a b
address_of_both a b ha hb m =
    let w = and_parts (nat_le a.first b.last) (nat_le b.first a.last) m in
    let x = leb-true a.first b.last w.0 in
    let y = leb-true b.first a.last w.1 in
    ⊎_elim
    (λ (lt : a.first < b.first). let p : AddressOfBoth a b = record { address = b.first; small = first_small b hb; first = in_from a b.first (omega arith) y; second = first_in b hb } in p)
    (λ (le : b.first ≤ a.first). let p : AddressOfBoth a b = record { address = a.first; small = first_small a ha; first = first_in a ha; second = in_from b a.first le x } in p)
    (cases_lt a.first b.first)

pub some_header : (a b : HeaderBox) → IsHeaderBox a → IsHeaderBox b → IsTrue (header_box_meets a b) → HoldBoth a b
some_header a b ha hb m =
    let w = and_parts (interval_meets a.src b.src && interval_meets a.dst b.dst) (box_meets a.transport b.transport) m in
    let v = and_parts (interval_meets a.src b.src) (interval_meets a.dst b.dst) w.0 in
    let s = address_of_both a.src b.src ha.src hb.src v.0 in
    let d = address_of_both a.dst b.dst ha.dst hb.dst v.1 in
    let t = met_held a.transport b.transport ha.transport hb.transport w.1 in
    let h : Header = record { src = s.address; dst = d.address; transport = t.transport } in
    record { header = h; proper = record { src = s.small; dst = d.small; transport = t.proper }; first = from_parts a h s.first d.first t.first; second = from_parts b h s.second d.second t.second }

pub meet_at : (a b : HeaderBox) (h : Header) → header_box_holds a h ≡ true → header_box_holds b h ≡ true → header_box_meets a b ≡ true
meet_at a b h x y =
    let p = parts_of a h x in
    let q = parts_of b h y in
    and_from (interval_meets a.src b.src && interval_meets a.dst b.dst) (box_meets a.transport b.transport)
    (and_from (interval_meets a.src b.src) (interval_meets a.dst b.dst) (meets_from a.src b.src h.src p.src q.src) (meets_from a.dst b.dst h.dst p.dst q.dst))
    (both_hold a.transport b.transport h.transport p.transport q.transport)

pub meeting_exact : (a b : HeaderBox) → IsHeaderBox a → IsHeaderBox b → (IsTrue (header_box_meets a b) ↔ HoldBoth a b)
meeting_exact a b ha hb = (some_header a b ha hb, λ both. meet_at a b both.header both.first both.second)

-- ---- for a result that is a test's

pub covering_result : (r : Bool) (a b : HeaderBox) → r ≡ header_box_covers a b → IsHeaderBox b → (IsTrue r ↔ HoldsAll a b)
covering_result r a b e proper = subst (λ x. IsTrue x ↔ HoldsAll a b) (sym e) (covering_exact a b proper)

pub meeting_result : (r : Bool) (a b : HeaderBox) → r ≡ header_box_meets a b → IsHeaderBox a → IsHeaderBox b → (IsTrue r ↔ HoldBoth a b)
meeting_result r a b e ha hb = subst (λ x. IsTrue x ↔ HoldBoth a b) (sym e) (meeting_exact a b ha hb)
