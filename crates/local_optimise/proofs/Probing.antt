-- What covers a line lies under the line's values of what it asks itself.
use Rattle.std.proofs.Common.{◌≡◌, ℕ, ◌+◌, ◌-◌, ◌*◌, ◌/◌, ◌%◌, Bool, true, false, cond, ◌&&◌, ◌||◌, List, [], ◌∷◌, refl, sym, ap, subst, ◌∙◌, ⊎_elim, arith}
use Rattle.std.specs.Prelude.{◌==◌, nat_le, Option, Some, None, is_some}
use Rattle.std.specs.List.{list_any, list_all, All}
use Rattle.std.specs.Option.{unwrap_or}
use Rattle.std.proofs.lemmas.Nat.{div-mul-add, div-add-mod'}
use Rattle.std.proofs.lemmas.Bool.{and_parts, and_from, or_cases, leb-true, le-leb, eqb-true, false≢true}
use Rattle.std.proofs.lemmas.List.Elements.{All-head}
use Rattle.spoc_base.specs.Address.{Cidr, IsCidr, Interval, IsInterval, size_of, prefix_holds, is_inside, interval_covers}
use Rattle.spoc_base.specs.Boxes.{TransportBox, AnyTransport, TcpPorts, UdpPorts, IcmpTypes, ProtocolNumber, box_covers, asks_no_more}
use Rattle.spoc_base.specs.Shown.{box_of}
use Rattle.spoc_base.specs.Pieces.{protocol_of}
use Rattle.spoc_base.specs.declared.transport.TBox.{TBox}
use Rattle.spoc_base.specs.declared.transport.TBox.TheVariants as box
use Rattle.policy_model.specs.Filters.{Line, prefixes_cover, line_covers}
use Rattle.list_laws.proofs.Nesting.{holds_parts, inside_parts}
use Rattle.list_laws.proofs.Members.{some_in, some_of, same_truth}
use Rattle.list_laws.specs.Lines.{IsProperLine}
use Rattle.dev_config.specs.declared.setup.Line.{Line as CodeLine}
use Rattle.dev_config.specs.Seen.{line_of}
use Rattle.local_optimise.specs.declared.keys.Mask.{Mask}
use Rattle.local_optimise.specs.declared.keys.Key.{Key}
use Rattle.local_optimise.specs.Keys.{leading_bits, length_asked, first_prefix, is_single, asks_protocol, asks_first, asks_second, first_value, second_value, mask_of, where_asked, key_by, key_of, suits, may_cover, is_cover}
use Rattle.local_optimise.specs.Chained.{same_mask, same_key}
use Rattle.local_optimise.proofs.Passes.{proper_line}
use Rattle.local_optimise.proofs.SameKeys.{key_made, same_mask_is, same_key_is, same_key_self}

-- ---- lines of the program

-- its ranges of ports ascend
abbrev pub HasPorts : TransportBox → Type 0
HasPorts (TcpPorts src dst established) = IsInterval src × IsInterval dst
HasPorts (UdpPorts src dst) = IsInterval src × IsInterval dst
HasPorts _ = Unit {0}

ports_ascend : (t : TBox) → HasPorts (box_of t)
ports_ascend box.Any = tt
ports_ascend (box.Tcp src dst est) = (src.ordered, dst.ordered)
ports_ascend (box.Udp src dst) = (src.ordered, dst.ordered)
ports_ascend (box.Icmp kind code) = tt
ports_ascend (box.Other proto) = tt

pub record IsSound (l : Line) : Type 0 where
  pub proper : IsProperLine l
  pub ports : HasPorts l.box

pub sound_line : (l : CodeLine) → IsSound (line_of l)
sound_line l = record { proper = proper_line l; ports = ports_ascend l.t }

-- ---- prefixes

same_quotient : (q : Cidr) (a : ℕ) → IsCidr q → prefix_holds q a ≡ true → a / size_of q ≡ q.net / size_of q
same_quotient q a ok h =
    let s = size_of q in
    let k = q.net / s in
    let w = holds_parts q a h in
    let e : k * s + q.net % s ≡ q.net = div-add-mod' q.net s in
    let z : q.net % s ≡ 0 = ok.aligned in
    let b = a - q.net in
    let is : a ≡ k * s + b = omega (arith, e, z, w.low) in
    ap (λ n. n / s) is ∙ div-mul-add k s b (omega (arith, w.low, w.high))

same_bits : (q : Cidr) (a : ℕ) → IsCidr q → prefix_holds q a ≡ true → leading_bits q.len a ≡ leading_bits q.len q.net
same_bits q a ok h = ap (λ n. cond (q.len == 0) 0 n) (same_quotient q a ok h)

record EndParts (ms : List Cidr) (l : Cidr) : Type 0 where
  bits : leading_bits (length_asked ms) l.net ≡ leading_bits (length_asked ms) (first_prefix ms).net
  shorter : nat_le (length_asked ms) l.len ≡ true

-- the prefixes that cover an end cover its first prefix
end_parts : (ms ls : List Cidr) (l : Cidr) → All IsCidr ms → prefixes_cover ms (l ∷ ls) ≡ true → EndParts ms l
end_parts [] ls l ok h = absurd (false≢true h)
end_parts (m ∷ []) ls l ok h =
    let w = and_parts (is_inside l m || false) (list_all (λ q. list_any (is_inside q) (m ∷ [])) ls) h in
    let i : is_inside l m ≡ true = ⊎_elim (λ t. t) (λ f. absurd (false≢true f)) (or_cases (is_inside l m) false w.0) in
    let v = inside_parts l m i in
    record { bits = same_bits m l.net (All-head IsCidr m [] ok) v.1; shorter = le-leb m.len l.len v.0 }
end_parts (m ∷ n ∷ ms) ls l ok h = record { bits = refl; shorter = le-leb 0 l.len (omega arith) }

-- ---- transports

one_port : (m l : Interval) → IsInterval l → interval_covers m l ≡ true → where_asked (is_single m) l.first ≡ where_asked (is_single m) m.first
one_port m l ok h = by (is_single m) refl
  where
    w : (nat_le m.first l.first ≡ true) × (nat_le l.last m.last ≡ true)
    w = and_parts (nat_le m.first l.first) (nat_le l.last m.last) h

    by : (b : Bool) → is_single m ≡ b → where_asked b l.first ≡ where_asked b m.first
    by true t =
        let x = leb-true m.first l.first w.0 in
        let y = leb-true l.last m.last w.1 in
        let z = leb-true m.last m.first t in
        omega (arith, x, y, z, ok)
    by false t = refl

one_number : (m l : Option ℕ) → asks_no_more m l ≡ true → where_asked (is_some m) (unwrap_or l 0) ≡ where_asked (is_some m) (unwrap_or m 0)
one_number None l h = refl
one_number (Some m) None h = absurd (false≢true h)
one_number (Some m) (Some n) h = sym (eqb-true m n h)

record BoxParts (m l : TransportBox) : Type 0 where
  protocol : where_asked (asks_protocol m) (protocol_of l) ≡ where_asked (asks_protocol m) (protocol_of m)
  first : where_asked (asks_first m) (first_value l) ≡ where_asked (asks_first m) (first_value m)
  second : where_asked (asks_second m) (second_value l) ≡ where_asked (asks_second m) (second_value m)

box_parts : (m l : TransportBox) → HasPorts l → box_covers m l ≡ true → BoxParts m l
box_parts AnyTransport l ok h = record { protocol = refl; first = refl; second = refl }
box_parts (TcpPorts src dst est) (TcpPorts s d e) ok h =
    let v = and_parts (interval_covers src s && interval_covers dst d) _ h in
    let w = and_parts (interval_covers src s) (interval_covers dst d) v.0 in
    record { protocol = refl; first = one_port src s ok.0 w.0; second = one_port dst d ok.1 w.1 }
box_parts (UdpPorts src dst) (UdpPorts s d) ok h =
    let w = and_parts (interval_covers src s) (interval_covers dst d) h in
    record { protocol = refl; first = one_port src s ok.0 w.0; second = one_port dst d ok.1 w.1 }
box_parts (IcmpTypes kind code) (IcmpTypes k c) ok h =
    let w = and_parts (asks_no_more kind k) (asks_no_more code c) h in
    record { protocol = refl; first = one_number kind k w.0; second = one_number code c w.1 }
box_parts (ProtocolNumber number) (ProtocolNumber n) ok h = record { protocol = sym (eqb-true number n h); first = refl; second = refl }
box_parts (TcpPorts src dst est) _ ok h = absurd (false≢true h)
box_parts (UdpPorts src dst) _ ok h = absurd (false≢true h)
box_parts (IcmpTypes kind code) _ ok h = absurd (false≢true h)
box_parts (ProtocolNumber number) _ ok h = absurd (false≢true h)

-- ---- lines

-- there are prefixes at both ends
abbrev pub HasEnds : Line → Type 0
HasEnds l = ((p : Cidr) × (ps : List Cidr) × (l.src ≡ p ∷ ps)) × ((q : Cidr) × (qs : List Cidr) × (l.dst ≡ q ∷ qs))

pub record Probed (m l : Line) : Type 0 where
  pub key : key_by (mask_of m) l ≡ key_of m
  pub src : nat_le (mask_of m).src (first_prefix l.src).len ≡ true
  pub dst : nat_le (mask_of m).dst (first_prefix l.dst).len ≡ true

pub probed : (m l : Line) → IsSound m → IsSound l → HasEnds l → line_covers m l ≡ true → Probed m l
probed m l sm sl ends h =
    let p = ends.0.0 in
    let q = ends.1.0 in
    let v = and_parts (prefixes_cover m.src l.src && prefixes_cover m.dst l.dst) (box_covers m.box l.box) h in
    let w = and_parts (prefixes_cover m.src l.src) (prefixes_cover m.dst l.dst) v.0 in
    let s = end_parts m.src ends.0.1 p sm.proper.src (subst (λ (x : List Cidr). prefixes_cover m.src x ≡ true) ends.0.2 w.0) in
    let d = end_parts m.dst ends.1.1 q sm.proper.dst (subst (λ (x : List Cidr). prefixes_cover m.dst x ≡ true) ends.1.2 w.1) in
    let t = box_parts m.box l.box sl.ports v.1 in
    let es : first_prefix l.src ≡ p = ap first_prefix ends.0.2 in
    let ed : first_prefix l.dst ≡ q = ap first_prefix ends.1.2 in
    record {
      key = key_made (key_by (mask_of m) l) (key_of m) refl (ap (λ (x : Cidr). leading_bits (length_asked m.src) x.net) es ∙ s.bits) (ap (λ (x : Cidr). leading_bits (length_asked m.dst) x.net) ed ∙ d.bits)
          t.protocol t.first t.second;
      src = ap (λ (x : Cidr). nat_le (length_asked m.src) x.len) es ∙ s.shorter;
      dst = ap (λ (x : Cidr). nat_le (length_asked m.dst) x.len) ed ∙ d.shorter;
    }

-- a line lies under some mask's values where it may cover
abbrev pub is_probed : Bool → Line → List Mask → Line → Bool
is_probed any l masks m = list_any (λ mask. may_cover any l mask && same_key (key_by mask l) (key_of m)) masks

suits_action : (any : Bool) (l m : Line) (masks : List Mask) → is_probed any l masks m ≡ true → suits any l.permit m.permit ≡ true
suits_action any l m masks h =
    let w = some_in (λ (mask : Mask). may_cover any l mask && same_key (key_by mask l) (key_of m)) masks h in
    let mask : Mask = w.0 in
    let v = and_parts (may_cover any l mask) (same_key (key_by mask l) (key_of m)) w.2 in
    let e : mask ≡ mask_of m = ap (λ (k : Key). k.mask) (same_key_is (key_by mask l) (key_of m) v.1) in
    let s = and_parts (suits any l.permit mask.permit && nat_le mask.src (first_prefix l.src).len) (nat_le mask.dst (first_prefix l.dst).len) v.0 in
    let t = and_parts (suits any l.permit mask.permit) (nat_le mask.src (first_prefix l.src).len) s.0 in
    ap (λ (x : Mask). suits any l.permit x.permit) (sym e) ∙ t.0

found_by_mask : (any : Bool) (l m : Line) (masks : List Mask) → IsSound m → IsSound l → HasEnds l → list_any (same_mask (mask_of m)) masks ≡ true → line_covers m l ≡ true →
    suits any l.permit m.permit ≡ true → is_probed any l masks m ≡ true
found_by_mask any l m masks sm sl ends has covers suit =
    let w = some_in (same_mask (mask_of m)) masks has in
    let mask : Mask = w.0 in
    let e : mask_of m ≡ mask = same_mask_is (mask_of m) mask w.2 in
    let p = probed m l sm sl ends covers in
    some_of (λ (x : Mask). may_cover any l x && same_key (key_by x l) (key_of m)) mask masks w.1
    (subst (λ (x : Mask). (may_cover any l x && same_key (key_by x l) (key_of m)) ≡ true) e
    (and_from (may_cover any l (mask_of m)) (same_key (key_by (mask_of m) l) (key_of m))
    (and_from (suits any l.permit m.permit && nat_le (mask_of m).src (first_prefix l.src).len) (nat_le (mask_of m).dst (first_prefix l.dst).len)
    (and_from (suits any l.permit m.permit) (nat_le (mask_of m).src (first_prefix l.src).len) suit p.src) p.dst)
    (ap (λ k. same_key k (key_of m)) p.key ∙ same_key_self (key_of m))))

and_last : (a b c : Bool) → (c ≡ true → a ≡ b) → (a && c) ≡ (b && c)
and_last true true c h = refl
and_last true false true h = h refl
and_last true false false h = refl
and_last false true true h = h refl
and_last false true false h = refl
and_last false false c h = refl

-- The lines that are probed and cover are those of a fitting action that cover.
pub probing_is_enough : (any : Bool) (l m : Line) (masks : List Mask) → IsSound m → IsSound l → HasEnds l → list_any (same_mask (mask_of m)) masks ≡ true →
    (is_probed any l masks m && line_covers m l) ≡ is_cover any l m
probing_is_enough any l m masks sm sl ends has =
    and_last (is_probed any l masks m) (suits any l.permit m.permit) (line_covers m l)
    (λ covers. same_truth (is_probed any l masks m) (suits any l.permit m.permit) (suits_action any l m masks) (found_by_mask any l m masks sm sl ends has covers))
