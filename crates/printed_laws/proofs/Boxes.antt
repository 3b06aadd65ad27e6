-- The transports of expanded permits and of their replies may stand in an entry.
use Rattle.std.proofs.Common.{ℕ, Bool, inl, inr, not, List, [], ◌∷◌, map, refl, sym, subst, ⊎_elim, arith}
use Rattle.std.specs.Prelude.{filter, flat_map, Some, None}
use Rattle.std.specs.List.{All}
use Rattle.spoc_base.specs.Boxes.{TransportBox, AnyTransport, TcpPorts, UdpPorts, IcmpTypes, ProtocolNumber}
use Rattle.spoc_base.specs.Pieces.{HeaderBox, difference}
use Rattle.spoc_base.specs.PlainSets.{IsPorts, IsPlainSet}
use Rattle.spoc_base.specs.declared.dialect.Dialect.{Dialect}
use Rattle.spoc_base.specs.declared.dialect.Dialect.TheVariants.{Ios, Asa}
use Rattle.policy_model.specs.Policy.{Rule, Service}
use Rattle.policy_model.specs.PlainRules.{HasPlainRules}
use Rattle.policy_model.specs.Zones.{Site}
use Rattle.policy_model.specs.Objects.{Object, objects_of}
use Rattle.policy_model.specs.Permits.{End, Permit, ends_in, rule_items, service_items, items_of, listed_permits, listed_denials, permits_of, pieces_left_by, left_by, box_of_permit, mirrored_boxes}
use Rattle.policy_model.proofs.AllWalks.{IsIn, from_map}
use Rattle.list_laws.proofs.Matching.{each_of}
use Rattle.piece_laws.proofs.Counting.{each_in}
use Rattle.piece_laws.proofs.Differences.{difference_plain}
use Rattle.piece_laws.proofs.Left.{from_left, kept}
use Rattle.policy_laws.proofs.Members.{from_flat_map, from_filter}
use Rattle.device_reading.specs.Grammar.{IsEntryBox}

-- ---- permits

box_of_rule : (s : Site) (areas : List (List ℕ)) (user : List Object) (rule : Rule) (q : Permit) → IsIn q (rule_items s areas user rule) → IsIn q.box rule.boxes
box_of_rule s areas user rule q h =
    let of_src = λ (src : End). flat_map (λ (dst : End). map (λ (box : TransportBox). record { src = src; dst = dst; box = box }) rule.boxes) (ends_in s areas user rule.dst) in
    let a = from_flat_map of_src q (ends_in s areas user rule.src) h in
    let src : End = a.0 in
    let of_dst = λ (dst : End). map (λ (box : TransportBox). record { src = src; dst = dst; box = box }) rule.boxes in
    let b = from_flat_map of_dst q (ends_in s areas user rule.dst) a.2 in
    let dst : End = b.0 in
    let c = from_map (λ (box : TransportBox). record { src = src; dst = dst; box = box }) q rule.boxes b.2 in
    subst (λ (x : Permit). IsIn x.box rule.boxes) (sym c.2) c.1

abbrev pub HasPlainBox : Permit → Type 0
HasPlainBox q = IsPlainSet q.box

module _ (s : Site) (areas : List (List ℕ)) (plain : HasPlainRules s.policy) where
  item_plain : (test : Rule → Bool) (q : Permit) → IsIn q (items_of s areas test) → HasPlainBox q
  item_plain test q h =
      let a = from_flat_map (service_items s areas test) q s.policy.services h in
      let service : Service = a.0 in
      let user = objects_of s areas [] service.user in
      let b = from_flat_map (rule_items s areas user) q (filter test service.rules) a.2 in
      let rule : Rule = b.0 in
      let of_service = each_of (λ (service : Service). All (λ (rule : Rule). All IsPlainSet rule.boxes) service.rules) s.policy.services plain service a.1 in
      let of_rule = each_of (λ (rule : Rule). All IsPlainSet rule.boxes) service.rules of_service rule (from_filter test rule service.rules b.1).0 in
      each_of IsPlainSet rule.boxes of_rule q.box (box_of_rule s areas user rule q b.2)

  piece_plain : (d q r : Permit) → HasPlainBox d → HasPlainBox q → IsIn r (left_by d q) → HasPlainBox r
  piece_plain d q r hd hq i = ⊎_elim (λ e. subst HasPlainBox (sym e) hq)
      (λ w. subst HasPlainBox (sym w.2)
      (each_in (λ (b : HeaderBox). IsPlainSet b.transport) (difference (box_of_permit q) (box_of_permit d)) w.0 (difference_plain (box_of_permit q) (box_of_permit d) hq hd) w.1))
      (from_left d q r i)

  pub permit_plain : (q : Permit) → IsIn q (permits_of s areas) → HasPlainBox q
  permit_plain q h =
      let a = from_flat_map (λ q. pieces_left_by (listed_denials s areas) (q ∷ [])) q (listed_permits s areas) h in
      let own : HasPlainBox a.0 = item_plain (λ rule. not rule.deny) a.0 a.1 in
      kept HasPlainBox (listed_denials s areas) (λ d j x y hx i. piece_plain d x y (item_plain (λ rule. rule.deny) d j) hx i) (a.0 ∷ [])
      (λ x i. ⊎_elim (λ e. subst HasPlainBox (sym e) own) (λ none. absurd none) i) q a.2

-- ---- entries

pub plain_stands : (dialect : Dialect) (t : TransportBox) → IsPlainSet t → IsEntryBox dialect t
plain_stands dialect AnyTransport h = tt
plain_stands Ios (TcpPorts src dst established) h = h.box
plain_stands Asa (TcpPorts src dst established) h = (h.box.0, h.box.1, h.unmarked)
plain_stands dialect (UdpPorts src dst) h = h.box
plain_stands dialect (IcmpTypes None None) h = refl
plain_stands dialect (IcmpTypes None (Some code)) h = absurd h.set
plain_stands dialect (IcmpTypes (Some kind) code) h = h.box
plain_stands dialect (ProtocolNumber number) h = h.box

all_good : IsPorts (record { first = 0; last = 65535 })
all_good = (omega arith, omega arith)

-- the replies to it, which only IOS is told
pub mirrored_stands : (t m : TransportBox) → IsPlainSet t → IsIn m (mirrored_boxes t) → IsEntryBox Ios m
mirrored_stands AnyTransport m h (inl e) = subst (IsEntryBox Ios) (sym e) (all_good, all_good)
mirrored_stands AnyTransport m h (inr (inl e)) = subst (IsEntryBox Ios) (sym e) (all_good, all_good)
mirrored_stands AnyTransport m h (inr (inr none)) = absurd none
mirrored_stands (TcpPorts src dst established) m h (inl e) = subst (IsEntryBox Ios) (sym e) (h.box.1, h.box.0)
mirrored_stands (TcpPorts src dst established) m h (inr none) = absurd none
mirrored_stands (UdpPorts src dst) m h (inl e) = subst (IsEntryBox Ios) (sym e) (h.box.1, h.box.0)
mirrored_stands (UdpPorts src dst) m h (inr none) = absurd none
mirrored_stands (IcmpTypes kind code) m h none = absurd none
mirrored_stands (ProtocolNumber number) m h none = absurd none
