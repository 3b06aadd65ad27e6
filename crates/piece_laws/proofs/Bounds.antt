-- What is left of sets of transports is proper, and there are few pieces.
use Rattle.std.proofs.Common.{◌≡◌, ◌≢◌, ℕ, ◌+◌, ◌<◌, ◌≤◌, Bool, true, false, cond, List, [], ◌∷◌, length, map, refl, ap, ◌∙◌, arith}
use Rattle.std.specs.Prelude.{Option, Some, None, ◌==◌, flat_map}
use Rattle.std.proofs.lemmas.List.{length-map}
use Rattle.std.proofs.lemmas.Bool.{and_parts, and_from, eqb-true, eq-eqb, both_ways, cond-true, false_from_ne_true}
use Rattle.spoc_base.specs.Address.{Interval, interval_meets}
use Rattle.spoc_base.specs.Boxes.{TransportBox, AnyTransport, TcpPorts, UdpPorts, IcmpTypes, ProtocolNumber, all_ports, IsOtherProtocol, box_covers, box_meets}
use Rattle.spoc_base.specs.PlainSets.{IsPorts, IsByteAsked, IsBox, IsPlainSet}
use Rattle.spoc_base.specs.Pieces.{pairs_left, all_bytes, all_protocols, other_code, codes_left, kind_left, types_left, protocol_left, protocol_of, whole_protocol, whole_left, some_left, transports_left}
use Rattle.piece_laws.proofs.Counting.{total, length-flat_map, total_most, Each, each-map, each_of_range}
use Rattle.piece_laws.proofs.Sides.{IsPart, ArePair, pairs_are, pairs_few}
use Rattle.piece_laws.proofs.Remains.{all_meet, other_is_itself}

eq_same : (n : ℕ) → (n == n) ≡ true
eq_same n = eq-eqb n n refl

bytes_most : (g : ℕ → ℕ) (k most : ℕ) → k < 256 → ((m : ℕ) → m ≢ k → g m ≤ 1) → g k ≤ most → total g all_bytes + 1 ≤ 256 + most
unfolding all_bytes
bytes_most g k most below h top = total_most g 0 256 k most (omega arith) (omega (arith, below)) h top

protocols_most : (g : ℕ → ℕ) (k most : ℕ) → 1 ≤ k → k < 256 → ((m : ℕ) → m ≢ k → g m ≤ 1) → g k ≤ most → total g all_protocols + 1 ≤ 255 + most
unfolding all_protocols
protocols_most g k most low below h top = total_most g 1 255 k most low (omega (arith, below)) h top

unless_few : {A : Type 0} (b : Bool) (z : A) → length (cond b [] (z ∷ [])) ≤ 1
unless_few true z = omega arith
unless_few false z = omega arith

unless_here : {A : Type 0} (b : Bool) (z : A) → b ≡ true → length (cond b [] (z ∷ [])) ≤ 0
unless_here b z e = let f : length (cond b [] (z ∷ [])) ≡ 0 = ap length (cond-true b [] (z ∷ []) e) in omega (arith, f)

codes_few : (k : ℕ) (c : Option ℕ) → IsByteAsked c → length (codes_left k c) ≤ 255
codes_few k None h = omega arith
codes_few k (Some v) h =
    let e = length-flat_map (other_code k v) all_bytes in
    let f = bytes_most (λ n. length (other_code k v n)) v 0 h (λ m ne. unless_few (m == v) (IcmpTypes (Some k) (Some m))) (unless_here (v == v) (IcmpTypes (Some k) (Some v)) (eq_same v)) in
    omega (arith, e, f)

otherwise_one : {A : Type 0} (b : Bool) (xs : List A) (z : A) → b ≡ false → length (cond b xs (z ∷ [])) ≤ 1
otherwise_one true xs z e = absurd (both_ways true e refl)
otherwise_one false xs z e = omega arith

choice_few : {A : Type 0} (b : Bool) (xs : List A) (z : A) (most : ℕ) → length xs ≤ most → 1 ≤ most → length (cond b xs (z ∷ [])) ≤ most
choice_few true xs z most h one = h
choice_few false xs z most h one = one

kinds_few : (k : ℕ) (c : Option ℕ) → k < 256 → IsByteAsked c → length (flat_map (kind_left k c) all_bytes) ≤ 510
kinds_few k c below h =
    let e = length-flat_map (kind_left k c) all_bytes in
    let f = bytes_most (λ n. length (kind_left k c n)) k 255 below
    (λ m ne. otherwise_one (m == k) (codes_left m c) (IcmpTypes (Some m) None) (false_from_ne_true (m == k) (λ t. ne (eqb-true m k t))))
    (choice_few (k == k) (codes_left k c) (IcmpTypes (Some k) None) 255 (codes_few k c h) (omega arith)) in
    omega (arith, e, f)

types_few : (kind k c : Option ℕ) → IsByteAsked k → IsByteAsked c → length (types_left kind k c) ≤ 510
types_few (Some m) k c hk hc = let e = codes_few m c hc in omega (arith, e)
types_few None None c hk hc = omega arith
types_few None (Some k) c hk hc = kinds_few k c hk hc

protocol_few : (a b : TransportBox) → IsBox b → length (protocol_left a b) ≤ 510
protocol_few (TcpPorts src dst m) (TcpPorts s d n) h =
    let e : length (map (λ p. TcpPorts p.0 p.1 m) (pairs_left src dst s d)) ≡ length (pairs_left src dst s d) = length-map (pairs_left src dst s d) (λ p. TcpPorts p.0 p.1 m) in
    let f = pairs_few src dst s d in omega (arith, e, f)
protocol_few (UdpPorts src dst) (UdpPorts s d) h =
    let e : length (map (λ p. UdpPorts p.0 p.1) (pairs_left src dst s d)) ≡ length (pairs_left src dst s d) = length-map (pairs_left src dst s d) (λ p. UdpPorts p.0 p.1) in
    let f = pairs_few src dst s d in omega (arith, e, f)
protocol_few (IcmpTypes kind code) (IcmpTypes k c) h = types_few kind k c h.0 h.1
protocol_few a b h = omega arith

own_number : (b : TransportBox) → IsBox b → protocol_of b ≢ 0 → (1 ≤ protocol_of b) × (protocol_of b < 256)
own_number AnyTransport h some = absurd (some refl)
own_number (TcpPorts s d e) h some = (omega arith, omega arith)
own_number (UdpPorts s d) h some = (omega arith, omega arith)
own_number (IcmpTypes k c) h some = (omega arith, omega arith)
own_number (ProtocolNumber n) h some = let x = h.1 in (omega arith, h.0)

protocols_few : (b : TransportBox) → IsBox b → protocol_of b ≢ 0 → length (flat_map (whole_left b) all_protocols) ≤ 764
protocols_few b h some =
    let e = length-flat_map (whole_left b) all_protocols in
    let k = protocol_of b in
    let w = own_number b h some in
    let f = protocols_most (λ n. length (whole_left b n)) k 510 w.0 w.1
    (λ m ne. otherwise_one (m == k) (protocol_left (whole_protocol m) b) (whole_protocol m) (false_from_ne_true (m == k) (λ t. ne (eqb-true m k t))))
    (choice_few (k == k) (protocol_left (whole_protocol k) b) (whole_protocol k) 510 (protocol_few (whole_protocol k) b h) (omega arith)) in
    omega (arith, e, f)

pub transports_few : (a b : TransportBox) → IsBox b → length (transports_left a b) ≤ 764
transports_few a b h = go (box_covers b a) refl
  where
    some_few : (a b : TransportBox) → IsBox b → box_covers b a ≡ false → length (some_left a b) ≤ 764
    some_few AnyTransport AnyTransport h e = absurd (both_ways true e refl)
    some_few AnyTransport (TcpPorts s d m) h e = protocols_few (TcpPorts s d m) h (λ z. let y : ⊥ = omega (arith, z) in y)
    some_few AnyTransport (UdpPorts s d) h e = protocols_few (UdpPorts s d) h (λ z. let y : ⊥ = omega (arith, z) in y)
    some_few AnyTransport (IcmpTypes k c) h e = protocols_few (IcmpTypes k c) h (λ z. let y : ⊥ = omega (arith, z) in y)
    some_few AnyTransport (ProtocolNumber n) h e = protocols_few (ProtocolNumber n) h h.1
    some_few (TcpPorts src dst m) b h e = let f = protocol_few (TcpPorts src dst m) b h in omega (arith, f)
    some_few (UdpPorts src dst) b h e = let f = protocol_few (UdpPorts src dst) b h in omega (arith, f)
    some_few (IcmpTypes kind code) b h e = let f = protocol_few (IcmpTypes kind code) b h in omega (arith, f)
    some_few (ProtocolNumber n) b h e = let f = protocol_few (ProtocolNumber n) b h in omega (arith, f)

    go : (c : Bool) → box_covers b a ≡ c → length (cond c [] (some_left a b)) ≤ 764
    go true e = omega arith
    go false e = some_few a b h e

-- ---- proper pieces

part_of_ports : (whole part : Interval) → IsPorts whole → IsPart whole part → IsPorts part
part_of_ports whole part h k = let x = h.1 in let y = k.high in (k.ordered, omega (arith, x, y))

unless_good : (P : TransportBox → Type 0) (b : Bool) (z : TransportBox) → P z → Each P (cond b [] (z ∷ []))
unless_good P true z h = tt
unless_good P false z h = (h, tt)

choice_good : (P : TransportBox → Type 0) (b : Bool) (xs : List TransportBox) (z : TransportBox) → Each P xs → P z → Each P (cond b xs (z ∷ []))
choice_good P true xs z h g = h
choice_good P false xs z h g = (g, tt)

over_bytes : (f : ℕ → List TransportBox) → ((k : ℕ) → k < 256 → Each IsPlainSet (f k)) → Each IsPlainSet (flat_map f all_bytes)
unfolding all_bytes
over_bytes f h = each_of_range IsPlainSet f 0 256 (λ k low high. h k (omega (arith, high)))

over_protocols : (f : ℕ → List TransportBox) → ((k : ℕ) → 1 ≤ k → k < 256 → Each IsPlainSet (f k)) → Each IsPlainSet (flat_map f all_protocols)
unfolding all_protocols
over_protocols f h = each_of_range IsPlainSet f 1 255 (λ k low high. h k low (omega (arith, high)))

codes_good : (k : ℕ) (c : Option ℕ) → k < 256 → Each IsPlainSet (codes_left k c)
codes_good k None below = tt
codes_good k (Some v) below = over_bytes (other_code k v) (λ n small. unless_good IsPlainSet (n == v) (IcmpTypes (Some k) (Some n)) (record { box = (below, small); set = tt; unmarked = tt }))

kinds_good : (k : ℕ) (c : Option ℕ) → Each IsPlainSet (flat_map (kind_left k c) all_bytes)
kinds_good k c = over_bytes (kind_left k c) (λ n small. choice_good IsPlainSet (n == k) (codes_left n c) (IcmpTypes (Some n) None) (codes_good n c small) (record { box = (small, tt); set = tt; unmarked = tt }))

types_good : (kind k c : Option ℕ) → IsByteAsked kind → Each IsPlainSet (types_left kind k c)
types_good (Some m) k c h = codes_good m c h
types_good None None c h = tt
types_good None (Some k) c h = kinds_good k c

protocol_good : (a b : TransportBox) → IsPlainSet a → IsBox b → box_meets a b ≡ true → Each IsPlainSet (protocol_left a b)
protocol_good (TcpPorts src dst e) (TcpPorts s d f) ga hb m =
    let w = and_parts (interval_meets src s) (interval_meets dst d) m in
    let a = ga.box in
    each-map (ArePair src dst) IsPlainSet (λ p. TcpPorts p.0 p.1 e) (pairs_left src dst s d)
    (λ p h. record { box = (part_of_ports src p.0 a.0 h.src_part, part_of_ports dst p.1 a.1 h.dst_part); set = tt; unmarked = ga.unmarked })
    (pairs_are src dst s d a.0.0 a.1.0 hb.0.0 w.0 w.1)
protocol_good (UdpPorts src dst) (UdpPorts s d) ga hb m =
    let w = and_parts (interval_meets src s) (interval_meets dst d) m in
    let a = ga.box in
    each-map (ArePair src dst) IsPlainSet (λ p. UdpPorts p.0 p.1) (pairs_left src dst s d)
    (λ p h. record { box = (part_of_ports src p.0 a.0 h.src_part, part_of_ports dst p.1 a.1 h.dst_part); set = tt; unmarked = tt })
    (pairs_are src dst s d a.0.0 a.1.0 hb.0.0 w.0 w.1)
protocol_good (IcmpTypes kind code) (IcmpTypes k c) ga hb m = types_good kind k c ga.box.0
protocol_good a b ga hb m = tt

all_ports_proper : IsPorts all_ports
all_ports_proper = (omega arith, omega arith)

pub whole_good : (n : ℕ) → 1 ≤ n → n < 256 → IsPlainSet (whole_protocol n)
whole_good n low high = go (n == 1) (n == 6) (n == 17) refl refl refl
  where
    go : (a b c : Bool) → (n == 1) ≡ a → (n == 6) ≡ b → (n == 17) ≡ c → IsPlainSet (cond a (IcmpTypes None None) (cond b (TcpPorts all_ports all_ports false) (cond c (UdpPorts all_ports all_ports) (ProtocolNumber n))))
    go true b c e f g = record { box = (tt, tt); set = tt; unmarked = tt }
    go false true c e f g = record { box = (all_ports_proper, all_ports_proper); set = tt; unmarked = refl }
    go false false true e f g = record { box = (all_ports_proper, all_ports_proper); set = tt; unmarked = tt }
    go false false false e f g =
        let other : IsOtherProtocol n =
        (high, (λ z. let y : ⊥ = omega arith in y), (λ z. both_ways (n == 1) e (eq-eqb n 1 z)), (λ z. both_ways (n == 6) f (eq-eqb n 6 z)), (λ z. both_ways (n == 17) g (eq-eqb n 17 z))) in
        record { box = other; set = other; unmarked = tt }

own_meets : (b : TransportBox) → IsBox b → protocol_of b ≢ 0 → box_meets (whole_protocol (protocol_of b)) b ≡ true
own_meets AnyTransport h some = absurd (some refl)
own_meets (TcpPorts s d e) h some = and_from (interval_meets all_ports s) (interval_meets all_ports d) (all_meet s h.0) (all_meet d h.1)
own_meets (UdpPorts s d) h some = and_from (interval_meets all_ports s) (interval_meets all_ports d) (all_meet s h.0) (all_meet d h.1)
own_meets (IcmpTypes k c) h some = refl
own_meets (ProtocolNumber n) h some = ap (λ w. box_meets w (ProtocolNumber n)) (other_is_itself n h) ∙ eq_same n

whole_left_good : (b : TransportBox) (n : ℕ) → IsBox b → protocol_of b ≢ 0 → 1 ≤ n → n < 256 → Each IsPlainSet (whole_left b n)
whole_left_good b n h some low high = go (n == protocol_of b) refl
  where
    go : (c : Bool) → (n == protocol_of b) ≡ c → Each IsPlainSet (cond c (protocol_left (whole_protocol n) b) (whole_protocol n ∷ []))
    go true e =
        let is : n ≡ protocol_of b = eqb-true n (protocol_of b) e in
        protocol_good (whole_protocol n) b (whole_good n low high) h (ap (λ k. box_meets (whole_protocol k) b) is ∙ own_meets b h some)
    go false e = (whole_good n low high, tt)

pub transports_good : (a b : TransportBox) → IsPlainSet a → IsBox b → box_meets a b ≡ true → Each IsPlainSet (transports_left a b)
transports_good a b ga h m = go (box_covers b a) refl
  where
    whole : (b : TransportBox) → IsBox b → protocol_of b ≢ 0 → Each IsPlainSet (flat_map (whole_left b) all_protocols)
    whole b h some = over_protocols (whole_left b) (λ n low high. whole_left_good b n h some low high)

    some_good : (a b : TransportBox) → IsPlainSet a → IsBox b → box_meets a b ≡ true → box_covers b a ≡ false → Each IsPlainSet (some_left a b)
    some_good AnyTransport AnyTransport ga h m e = absurd (both_ways true e refl)
    some_good AnyTransport (TcpPorts s d f) ga h m e = whole (TcpPorts s d f) h (λ z. let y : ⊥ = omega (arith, z) in y)
    some_good AnyTransport (UdpPorts s d) ga h m e = whole (UdpPorts s d) h (λ z. let y : ⊥ = omega (arith, z) in y)
    some_good AnyTransport (IcmpTypes k c) ga h m e = whole (IcmpTypes k c) h (λ z. let y : ⊥ = omega (arith, z) in y)
    some_good AnyTransport (ProtocolNumber n) ga h m e = whole (ProtocolNumber n) h h.1
    some_good (TcpPorts src dst f) b ga h m e = protocol_good (TcpPorts src dst f) b ga h m
    some_good (UdpPorts src dst) b ga h m e = protocol_good (UdpPorts src dst) b ga h m
    some_good (IcmpTypes kind code) b ga h m e = protocol_good (IcmpTypes kind code) b ga h m
    some_good (ProtocolNumber n) b ga h m e = protocol_good (ProtocolNumber n) b ga h m

    go : (c : Bool) → box_covers b a ≡ c → Each IsPlainSet (cond c [] (some_left a b))
    go true e = tt
    go false e = some_good a b ga h m e
