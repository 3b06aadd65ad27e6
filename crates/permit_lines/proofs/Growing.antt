-- Lines of permits that are put behind others; and the permits of the replies, from their two slots.
use Rattle.std.proofs.Common.{◌≡◌, ℕ, ◌<◌, length, List, [], ◌∷◌, ◌++◌, map, refl, sym, ap, subst, ◌∙◌, append_assoc, append-nil, Option}
use Rattle.std.specs.Prelude.{true, flat_map, option_map, option_to_list, slice_index_or, IfSome}
use Rattle.std.proofs.Math.ListN.{get_or-map}
use Rattle.std.proofs.lemmas.List.{length-map}
use Rattle.spoc_base.specs.Boxes.{TransportBox, AnyTransport, TcpPorts, UdpPorts, IcmpTypes, ProtocolNumber, all_ports}
use Rattle.policy_model.specs.Policy.{Policy}
use Rattle.policy_model.specs.Permits as plain
use Rattle.policy_model.specs.Permits.{mirrored_boxes, mirrors_of}
use Rattle.policy_model.specs.Filters.{Line}
use Rattle.policy_model.specs.Blocks.{permit_lines, permit_at}
use Rattle.permit_set.specs.Shown.{permit_of}
use Rattle.permit_set.specs.Slots.{two_slots}
use Rattle.permit_set.specs.declared.permit.Permit.{Permit}
use Rattle.permit_lines.specs.Given.{IsKnown, AreKnown}
use Rattle.permit_lines.specs.Pieces.{Cover, lines_of_cover, cover_in, some_lines, reply_lines}
use Rattle.permit_lines.specs.Seen.{cover_seen, lines_of_covers, GrowsBy}
use Rattle.permit_lines.specs.declared.cover.PermitCover.{PermitCover}

-- ---- lines in pieces

-- one more
one_more : (covers : List PermitCover) (cover : PermitCover) → lines_of_covers (covers ++ cover ∷ []) ≡ lines_of_covers covers ++ lines_of_cover (cover_seen cover)
one_more [] cover = append-nil (lines_of_cover (cover_seen cover))
one_more (c ∷ cs) cover =
    ap (λ ls. lines_of_cover (cover_seen c) ++ ls) (one_more cs cover) ∙ sym (append_assoc (lines_of_cover (cover_seen c)) (lines_of_covers cs) (lines_of_cover (cover_seen cover)))

pub permit_grows : (p : Policy) (view : List ℕ) (q : plain.Permit) (cover : PermitCover) (old new : List PermitCover) → cover_seen cover ≡ cover_in p view q →
    new ≡ old ++ cover ∷ [] → GrowsBy (permit_lines p view q) old new
permit_grows p view q cover old new is pushed =
    ap lines_of_covers pushed ∙ (one_more old cover ∙ ap (λ (c : Cover). lines_of_covers old ++ lines_of_cover c) is)

grown_twice : (first second : List Line) (old mid new : List PermitCover) → GrowsBy first old mid → GrowsBy second mid new → GrowsBy (first ++ second) old new
grown_twice first second old mid new g h = h ∙ (ap (λ ls. ls ++ second) g ∙ append_assoc (lines_of_covers old) first second)

pub both_grown : (first second : List Line) (old mid new : List PermitCover) → old ≡ [] → GrowsBy first old mid → GrowsBy second mid new → lines_of_covers new ≡ first ++ second
both_grown first second old mid new none g h = grown_twice first second old mid new g h ∙ ap (λ cs. lines_of_covers cs ++ (first ++ second)) none

-- ---- the permits

pub known_at : (p : Policy) (all : List Permit) (k : ℕ) (q : Permit) → AreKnown p (map permit_of all) → k < length all → permit_of q ≡ permit_at (map permit_of all) k → IsKnown p (permit_of q)
known_at p all k q known below is = subst (IsKnown p) (sym is) (known.each k (subst (λ n. k < n) (sym (length-map all permit_of)) below))

-- ---- the replies

slot_is : (xs : List (Option Permit)) (ys : List (Option plain.Permit)) (k : ℕ) (d : Option Permit) → map (option_map permit_of) xs ≡ ys →
    option_map permit_of (slice_index_or xs k d) ≡ slice_index_or ys k (option_map permit_of d)
slot_is xs ys k d e = sym (get_or-map (option_map permit_of) xs k d) ∙ ap (λ zs. slice_index_or zs k (option_map permit_of d)) e

second_slot : (P : plain.Permit → Type 0) (g : TransportBox → plain.Permit) (b : TransportBox) (d : Option plain.Permit) → ((box : TransportBox) → P (g box)) →
    IfSome (slice_index_or (two_slots (map g (mirrored_boxes b))) 1 d) P
second_slot P g AnyTransport d all = all (UdpPorts all_ports all_ports)
second_slot P g (TcpPorts s t e) d all = tt
second_slot P g (UdpPorts s t) d all = tt
second_slot P g (IcmpTypes k c) d all = tt
second_slot P g (ProtocolNumber n) d all = tt

first_slot : (P : plain.Permit → Type 0) (g : TransportBox → plain.Permit) (b : TransportBox) (d : Option plain.Permit) → ((box : TransportBox) → P (g box)) →
    IfSome (slice_index_or (two_slots (map g (mirrored_boxes b))) 0 d) P
first_slot P g AnyTransport d all = all (TcpPorts all_ports all_ports true)
first_slot P g (TcpPorts s t e) d all = all (TcpPorts t s true)
first_slot P g (UdpPorts s t) d all = all (UdpPorts t s)
first_slot P g (IcmpTypes k c) d all = tt
first_slot P g (ProtocolNumber n) d all = tt

-- the ends of a reply are those of the permit
pub first_known : (p : Policy) (q : plain.Permit) (xs : List (Option Permit)) (d : Option Permit) → map (option_map permit_of) xs ≡ two_slots (mirrors_of q) → IsKnown p q →
    IfSome (option_map permit_of (slice_index_or xs 0 d)) (IsKnown p)
first_known p q xs d e known =
    subst (λ o. IfSome o (IsKnown p)) (sym (slot_is xs (two_slots (mirrors_of q)) 0 d e))
    (first_slot (IsKnown p) (λ (box : TransportBox). record { src = q.dst; dst = q.src; box = box }) q.box (option_map permit_of d)
    (λ box. record { src_end = known.dst_end; dst_end = known.src_end }))

pub second_known : (p : Policy) (q : plain.Permit) (xs : List (Option Permit)) (d : Option Permit) → map (option_map permit_of) xs ≡ two_slots (mirrors_of q) → IsKnown p q →
    IfSome (option_map permit_of (slice_index_or xs 1 d)) (IsKnown p)
second_known p q xs d e known =
    subst (λ o. IfSome o (IsKnown p)) (sym (slot_is xs (two_slots (mirrors_of q)) 1 d e))
    (second_slot (IsKnown p) (λ (box : TransportBox). record { src = q.dst; dst = q.src; box = box }) q.box (option_map permit_of d)
    (λ box. record { src_end = known.dst_end; dst_end = known.src_end }))

slot_lines : (F : plain.Permit → List Line) (g : TransportBox → plain.Permit) (b : TransportBox) (d e : Option plain.Permit) →
    flat_map F (option_to_list (slice_index_or (two_slots (map g (mirrored_boxes b))) 0 d)) ++ flat_map F (option_to_list (slice_index_or (two_slots (map g (mirrored_boxes b))) 1 e))
    ≡ flat_map F (map g (mirrored_boxes b))
slot_lines F g AnyTransport d e =
    let tcp = g (TcpPorts all_ports all_ports true) in
    let udp = g (UdpPorts all_ports all_ports) in
    ap (λ ls. ls ++ (F udp ++ [])) (append-nil (F tcp))
slot_lines F g (TcpPorts s t est) d e = append-nil (F (g (TcpPorts t s true)) ++ [])
slot_lines F g (UdpPorts s t) d e = append-nil (F (g (UdpPorts t s)) ++ [])
slot_lines F g (IcmpTypes k c) d e = refl
slot_lines F g (ProtocolNumber n) d e = refl

pub replies_grow : (p : Policy) (view : List ℕ) (q : plain.Permit) (xs : List (Option Permit)) (d e : Option Permit) (old mid new : List PermitCover) →
    map (option_map permit_of) xs ≡ two_slots (mirrors_of q) → GrowsBy (some_lines p view (option_map permit_of (slice_index_or xs 0 d))) old mid →
    GrowsBy (some_lines p view (option_map permit_of (slice_index_or xs 1 e))) mid new → GrowsBy (reply_lines p view q) old new
replies_grow p view q xs d e old mid new slots g h =
    let ys = two_slots (mirrors_of q) in
    let first = slot_is xs ys 0 d slots in
    let second = slot_is xs ys 1 e slots in
    let a : GrowsBy (some_lines p view (slice_index_or ys 0 (option_map permit_of d))) old mid = subst (λ o. GrowsBy (some_lines p view o) old mid) first g in
    let b : GrowsBy (some_lines p view (slice_index_or ys 1 (option_map permit_of e))) mid new = subst (λ o. GrowsBy (some_lines p view o) mid new) second h in
    let both = slot_lines (permit_lines p view) (λ (box : TransportBox). record { src = q.dst; dst = q.src; box = box }) q.box (option_map permit_of d) (option_map permit_of e) in
    subst (λ ls. GrowsBy ls old new) both
    (grown_twice (some_lines p view (slice_index_or ys 0 (option_map permit_of d))) (some_lines p view (slice_index_or ys 1 (option_map permit_of e))) old mid new a b)
