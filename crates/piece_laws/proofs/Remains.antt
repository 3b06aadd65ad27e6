-- What is left of sets of transports holds each transport of the difference once.
use Rattle.std.proofs.Common.{◌≡◌, ◌≢◌, ℕ, ◌^◌, ◌<◌, ◌≤◌, Bool, true, false, not, cond, ◌&&◌, ◌||◌, List, [], ◌∷◌, map, refl, sym, ap, ◌∙◌, arith}
use Rattle.std.specs.Prelude.{Option, Some, None, ◌==◌, flat_map}
use Rattle.std.proofs.lemmas.Bool.{and_parts, and_from, eqb-true, eq-eqb, both_ways, false≢true, false_from_ne_true}
use Rattle.spoc_base.specs.Address.{Interval, within, interval_meets}
use Rattle.spoc_base.specs.Boxes.{TransportBox, AnyTransport, TcpPorts, UdpPorts, IcmpTypes, ProtocolNumber, all_ports, IsTransport, IsOtherProtocol, asks, asks_no_more, agree, box_holds, box_covers, box_meets}
use Rattle.spoc_base.specs.declared.transport.Transport.{Transport}
use Rattle.spoc_base.specs.declared.transport.Transport.TheVariants.{Tcp, Udp, Icmp, Other}
use Rattle.spoc_base.specs.PlainSets.{IsPorts, IsProperSet, IsPlainSet}
use Rattle.list_laws.proofs.Members.{same_truth}
use Rattle.list_laws.proofs.Sets.{in_from, covered_holds, meets_from}
use Rattle.spoc_base.specs.Pieces.{pairs_left, all_bytes, all_protocols, other_code, codes_left, kind_left, types_left, protocol_left, protocol_of, whole_protocol, whole_left, some_left, transports_left}
use Rattle.piece_laws.proofs.Counting.{bit, times, total, times-map, times-flat_map, times_and, total_none, total_one}
use Rattle.piece_laws.proofs.Sides.{pairs_times}

none_of_itself : (x : Bool) → ◌≡◌ {A = ℕ} 0 (bit (x && not x))
none_of_itself true = refl
none_of_itself false = refl

eq_same : (n : ℕ) → (n == n) ≡ true
eq_same n = eq-eqb n n refl

ne_false : (m n : ℕ) → m ≢ n → (m == n) ≡ false
ne_false m n h = false_from_ne_true (m == n) (λ t. h (eqb-true m n t))

eq_turned : (m n : ℕ) → (m == n) ≡ (n == m)
eq_turned m n = same_truth (m == n) (n == m) (λ t. eq-eqb n m (sym (eqb-true m n t))) (λ t. eq-eqb m n (sym (eqb-true n m t)))

-- ---- all numbers

over_bytes_one : (g : ℕ → ℕ) (k : ℕ) → k < 256 → ((m : ℕ) → m ≢ k → g m ≡ 0) → total g all_bytes ≡ g k
unfolding all_bytes
over_bytes_one g k below h = total_one g 0 256 k (omega arith) (omega (arith, below)) h

over_bytes_none : (g : ℕ → ℕ) → ((m : ℕ) → g m ≡ 0) → total g all_bytes ≡ 0
unfolding all_bytes
over_bytes_none g h = total_none g 0 256 (λ m le. h m)

over_protocols_one : (g : ℕ → ℕ) (k : ℕ) → 1 ≤ k → k < 256 → ((m : ℕ) → m ≢ k → g m ≡ 0) → total g all_protocols ≡ g k
unfolding all_protocols
over_protocols_one g k low below h = total_one g 1 255 k low (omega (arith, below)) h

-- ---- ICMP

unless_times : {A : Type 0} (p : A → Bool) (b : Bool) (z : A) → times p (cond b [] (z ∷ [])) ≡ cond b 0 (bit (p z))
unless_times p true z = refl
unless_times p false z = omega arith

unless_none : (b : Bool) (n : ℕ) → n ≡ 0 → cond b 0 n ≡ 0
unless_none true n e = refl
unless_none false n e = e

no_code : (k v n : ℕ) (t : Transport) → box_holds (IcmpTypes (Some k) (Some n)) t ≡ false → times (λ z. box_holds z t) (other_code k v n) ≡ 0
no_code k v n t e = unless_times (λ z. box_holds z t) (n == v) (IcmpTypes (Some k) (Some n)) ∙ unless_none (n == v) (bit (box_holds (IcmpTypes (Some k) (Some n)) t)) (ap bit e)

code_bits : (b m c s : Bool) → b ≡ c → s ≡ true → cond b 0 (bit (m && s)) ≡ bit ((m && true) && not (m && c))
code_bits true true true s e f = refl
code_bits true true false s e f = absurd (false≢true (sym e))
code_bits true false c s e f = refl
code_bits false true true s e f = absurd (false≢true e)
code_bits false true false true e f = refl
code_bits false true false false e f = absurd (false≢true f)
code_bits false false c s e f = refl

that_code : (k v x y : ℕ) → times (λ z. box_holds z (Icmp x y)) (other_code k v y) ≡ bit (((k == x) && true) && not ((k == x) && (v == y)))
that_code k v x y =
    unless_times (λ z. box_holds z (Icmp x y)) (y == v) (IcmpTypes (Some k) (Some y)) ∙ code_bits (y == v) (k == x) (v == y) (y == y) (eq_turned y v) (eq_same y)

codes_times : (k v : ℕ) (t : Transport) → IsTransport t →
    times (λ z. box_holds z t) (flat_map (other_code k v) all_bytes) ≡ bit (box_holds (IcmpTypes (Some k) None) t && not (box_holds (IcmpTypes (Some k) (Some v)) t))
codes_times k v (Icmp x y) h =
    times-flat_map (λ z. box_holds z (Icmp x y)) (other_code k v) all_bytes
    ∙ (over_bytes_one (λ n. times (λ z. box_holds z (Icmp x y)) (other_code k v n)) y h.1
    (λ n ne. no_code k v n (Icmp x y) (false_from_ne_true ((k == x) && (n == y)) (λ t. ne (eqb-true n y (and_parts (k == x) (n == y) t).1))))
    ∙ that_code k v x y)
codes_times k v t h = times-flat_map (λ z. box_holds z t) (other_code k v) all_bytes ∙ over_bytes_none (λ n. times (λ z. box_holds z t) (other_code k v n)) (λ n. no_code k v n t refl)

codes_left_times : (k : ℕ) (c : Option ℕ) (t : Transport) → IsTransport t →
    times (λ z. box_holds z t) (codes_left k c) ≡ bit (box_holds (IcmpTypes (Some k) None) t && not (box_holds (IcmpTypes (Some k) c) t))
codes_left_times k None t h = none_of_itself (box_holds (IcmpTypes (Some k) None) t)
codes_left_times k (Some v) t h = codes_times k v t h

choice_times : {A : Type 0} (p : A → Bool) (b : Bool) (xs : List A) (z : A) (n : ℕ) → times p xs ≡ n → times p (cond b xs (z ∷ [])) ≡ cond b n (bit (p z))
choice_times p true xs z n e = e
choice_times p false xs z n e = omega arith

choice_none : (b : Bool) (m n : ℕ) → m ≡ 0 → n ≡ 0 → cond b m n ≡ 0
choice_none true m n e f = e
choice_none false m n e f = f

kind_left_times : (k : ℕ) (c : Option ℕ) (n : ℕ) (t : Transport) → IsTransport t →
    times (λ z. box_holds z t) (kind_left k c n) ≡ cond (n == k) (bit (box_holds (IcmpTypes (Some n) None) t && not (box_holds (IcmpTypes (Some n) c) t))) (bit (box_holds (IcmpTypes (Some n) None) t))
kind_left_times k c n t h = choice_times (λ z. box_holds z t) (n == k) (codes_left n c) (IcmpTypes (Some n) None) (bit (box_holds (IcmpTypes (Some n) None) t && not (box_holds (IcmpTypes (Some n) c) t))) (codes_left_times n c t h)

no_kind : (k : ℕ) (c : Option ℕ) (n : ℕ) (t : Transport) → IsTransport t → box_holds (IcmpTypes (Some n) None) t ≡ false → times (λ z. box_holds z t) (kind_left k c n) ≡ 0
no_kind k c n t h e =
    kind_left_times k c n t h
    ∙ choice_none (n == k) (bit (box_holds (IcmpTypes (Some n) None) t && not (box_holds (IcmpTypes (Some n) c) t))) (bit (box_holds (IcmpTypes (Some n) None) t))
    (ap (λ b. bit (b && not (box_holds (IcmpTypes (Some n) c) t))) e) (ap bit e)

kind_bits : (b s c d a : Bool) → b ≡ d → s ≡ true → cond b (bit ((s && true) && not (s && a))) (bit (s && true)) ≡ bit (true && not (d && a))
kind_bits true true c true true e f = refl
kind_bits true true c true false e f = refl
kind_bits true true c false a e f = absurd (false≢true (sym e))
kind_bits true false c d a e f = absurd (false≢true f)
kind_bits false true c true a e f = absurd (false≢true e)
kind_bits false true c false a e f = refl
kind_bits false false c d a e f = absurd (false≢true f)

kinds_times : (k : ℕ) (c : Option ℕ) (t : Transport) → IsTransport t →
    times (λ z. box_holds z t) (flat_map (kind_left k c) all_bytes) ≡ bit (box_holds (IcmpTypes None None) t && not (box_holds (IcmpTypes (Some k) c) t))
kinds_times k c (Icmp x y) h =
    times-flat_map (λ z. box_holds z (Icmp x y)) (kind_left k c) all_bytes
    ∙ (over_bytes_one (λ n. times (λ z. box_holds z (Icmp x y)) (kind_left k c n)) x h.0
    (λ n ne. no_kind k c n (Icmp x y) h (ap (λ b. b && true) (ne_false n x ne)))
    ∙ (kind_left_times k c x (Icmp x y) h ∙ kind_bits (x == k) (x == x) true (k == x) (asks c y) (eq_turned x k) (eq_same x)))
kinds_times k c t h = times-flat_map (λ z. box_holds z t) (kind_left k c) all_bytes ∙ over_bytes_none (λ n. times (λ z. box_holds z t) (kind_left k c n)) (λ n. no_kind k c n t h refl)

-- ---- TCP and UDP

marked_bits : (p q c : Bool) → cond c (bit (p && not q)) 0 ≡ bit ((p && c) && not (q && true))
marked_bits true true true = refl
marked_bits true true false = refl
marked_bits true false true = refl
marked_bits true false false = refl
marked_bits false true true = refl
marked_bits false true false = refl
marked_bits false false true = refl
marked_bits false false false = refl

none_of_pairs : {B : Type 0} (p : B → Bool) (f : (Interval × Interval) → B) (xs : List (Interval × Interval)) → ((x : Interval × Interval) → p (f x) ≡ false) → times p (map f xs) ≡ 0
none_of_pairs p f [] h = refl
none_of_pairs p f (x ∷ xs) h = let e = none_of_pairs p f xs h in let g = ap bit (h x) in omega (arith, e, g)

tcp_times : (src dst : Interval) (e : Bool) (s d : Interval) (t : Transport) → s.first ≤ s.last → d.first ≤ d.last → interval_meets src s ≡ true → interval_meets dst d ≡ true →
    times (λ z. box_holds z t) (map (λ p. TcpPorts p.0 p.1 e) (pairs_left src dst s d)) ≡ bit (box_holds (TcpPorts src dst e) t && not (box_holds (TcpPorts s d false) t))
tcp_times src dst e s d (Tcp x y g) hs hd ms md =
    let c = not e || g in
    let all = pairs_left src dst s d in
    let both = λ (p : Interval × Interval). within p.0 x && within p.1 y in
    times-map (λ z. box_holds z (Tcp x y g)) (λ p. TcpPorts p.0 p.1 e) all
    ∙ (times_and both c all
    ∙ (ap (λ n. cond c n 0) (pairs_times src dst s d x y hs hd ms md)
    ∙ marked_bits (within src x && within dst y) (within s x && within d y) c))
tcp_times src dst e s d t hs hd ms md = none_of_pairs (λ z. box_holds z t) (λ p. TcpPorts p.0 p.1 e) (pairs_left src dst s d) (λ p. refl)

udp_times : (src dst s d : Interval) (t : Transport) → s.first ≤ s.last → d.first ≤ d.last → interval_meets src s ≡ true → interval_meets dst d ≡ true →
    times (λ z. box_holds z t) (map (λ p. UdpPorts p.0 p.1) (pairs_left src dst s d)) ≡ bit (box_holds (UdpPorts src dst) t && not (box_holds (UdpPorts s d) t))
udp_times src dst s d (Udp x y) hs hd ms md =
    times-map (λ z. box_holds z (Udp x y)) (λ p. UdpPorts p.0 p.1) (pairs_left src dst s d) ∙ pairs_times src dst s d x y hs hd ms md
udp_times src dst s d t hs hd ms md = none_of_pairs (λ z. box_holds z t) (λ p. UdpPorts p.0 p.1) (pairs_left src dst s d) (λ p. refl)

-- ---- sets of one protocol

types_times : (kind code k c : Option ℕ) (t : Transport) → IsTransport t → IsProperSet (IcmpTypes kind code) → IsProperSet (IcmpTypes k c) → (agree kind k && agree code c) ≡ true →
    (asks_no_more k kind && asks_no_more c code) ≡ false →
    times (λ z. box_holds z t) (types_left kind k c) ≡ bit (box_holds (IcmpTypes kind code) t && not (box_holds (IcmpTypes k c) t))
types_times (Some m) code None None t h ha hb meets covers = absurd (false≢true (sym covers))
types_times (Some m) code None (Some v) t h ha hb meets covers = absurd hb
types_times (Some m) code (Some n) None t h ha hb meets covers =
    let w = and_parts (m == n) (agree code None) meets in
    absurd (both_ways ((n == m) && true) covers (and_from (n == m) true (eq_turned n m ∙ w.0) refl))
types_times (Some m) (Some w) (Some n) (Some v) t h ha hb meets covers =
    let p = and_parts (m == n) (w == v) meets in
    absurd (both_ways ((n == m) && (v == w)) covers (and_from (n == m) (v == w) (eq_turned n m ∙ p.0) (eq_turned v w ∙ p.1)))
types_times (Some m) None (Some n) (Some v) t h ha hb meets covers =
    let p = and_parts (m == n) true meets in
    codes_times m v t h ∙ ap (λ j. bit (box_holds (IcmpTypes (Some m) None) t && not (box_holds (IcmpTypes (Some j) (Some v)) t))) (eqb-true m n p.0)
types_times None (Some w) k c t h ha hb meets covers = absurd ha
types_times None None None None t h ha hb meets covers = absurd (false≢true (sym covers))
types_times None None None (Some v) t h ha hb meets covers = absurd hb
types_times None None (Some n) c t h ha hb meets covers = kinds_times n c t h

protocol_times : (a b : TransportBox) (t : Transport) → IsTransport t → IsPlainSet a → IsPlainSet b → box_meets a b ≡ true → box_covers b a ≡ false → protocol_of a ≢ 0 →
    times (λ z. box_holds z t) (protocol_left a b) ≡ bit (box_holds a t && not (box_holds b t))
protocol_times AnyTransport b t h ga gb meets covers some = absurd (some refl)
protocol_times (TcpPorts src dst e) AnyTransport t h ga gb meets covers some = absurd (false≢true (sym covers))
protocol_times (UdpPorts src dst) AnyTransport t h ga gb meets covers some = absurd (false≢true (sym covers))
protocol_times (IcmpTypes kind code) AnyTransport t h ga gb meets covers some = absurd (false≢true (sym covers))
protocol_times (ProtocolNumber n) AnyTransport t h ga gb meets covers some = absurd (false≢true (sym covers))
protocol_times (TcpPorts src dst e) (TcpPorts s d f) t h ga gb meets covers some =
    let w = and_parts (interval_meets src s) (interval_meets dst d) meets in
    let b = gb.box in
    tcp_times src dst e s d t b.0.0 b.1.0 w.0 w.1 ∙ ap (λ m. bit (box_holds (TcpPorts src dst e) t && not (box_holds (TcpPorts s d m) t))) (sym gb.unmarked)
protocol_times (UdpPorts src dst) (UdpPorts s d) t h ga gb meets covers some =
    let w = and_parts (interval_meets src s) (interval_meets dst d) meets in
    let b = gb.box in
    udp_times src dst s d t b.0.0 b.1.0 w.0 w.1
protocol_times (IcmpTypes kind code) (IcmpTypes k c) t h ga gb meets covers some = types_times kind code k c t h ga.set gb.set meets covers
protocol_times (ProtocolNumber m) (ProtocolNumber n) t h ga gb meets covers some = absurd (both_ways (n == m) covers (eq_turned n m ∙ meets))
protocol_times a b t h ga gb meets covers some = absurd (false≢true meets)

-- ---- all protocols

-- the number of a transport's protocol
abbrev pub number_of : Transport → ℕ
number_of (Tcp x y g) = 6
number_of (Udp x y) = 17
number_of (Icmp x y) = 1
number_of (Other n) = n

small_port : (n : ℕ) → n < 2 ^ 16 → within all_ports n ≡ true
small_port n h = in_from all_ports n (omega arith) (omega arith)

whole_by : (n : ℕ) (t : Transport) → IsTransport t → (a b c : Bool) → (n == 1) ≡ a → (n == 6) ≡ b → (n == 17) ≡ c →
    box_holds (cond a (IcmpTypes None None) (cond b (TcpPorts all_ports all_ports false) (cond c (UdpPorts all_ports all_ports) (ProtocolNumber n)))) t ≡ (n == number_of t)
whole_by n (Icmp x y) h true b c e f g = sym e
whole_by n (Icmp x y) h false true c e f g = sym e
whole_by n (Icmp x y) h false false true e f g = sym e
whole_by n (Icmp x y) h false false false e f g = sym e
whole_by n (Tcp x y m) h true b c e f g = sym (ap (λ k. k == 6) (eqb-true n 1 e))
whole_by n (Tcp x y m) h false true c e f g = and_from (within all_ports x && within all_ports y) true (and_from (within all_ports x) (within all_ports y) (small_port x h.0) (small_port y h.1)) refl ∙ sym f
whole_by n (Tcp x y m) h false false true e f g = sym f
whole_by n (Tcp x y m) h false false false e f g = sym f
whole_by n (Udp x y) h true b c e f g = sym (ap (λ k. k == 17) (eqb-true n 1 e))
whole_by n (Udp x y) h false true c e f g = sym (ap (λ k. k == 17) (eqb-true n 6 f))
whole_by n (Udp x y) h false false true e f g = and_from (within all_ports x) (within all_ports y) (small_port x h.0) (small_port y h.1) ∙ sym g
whole_by n (Udp x y) h false false false e f g = sym g
whole_by n (Other k) h true b c e f g = sym (ne_false n k (λ q. h.2 (sym q ∙ eqb-true n 1 e)))
whole_by n (Other k) h false true c e f g = sym (ne_false n k (λ q. h.3 (sym q ∙ eqb-true n 6 f)))
whole_by n (Other k) h false false true e f g = sym (ne_false n k (λ q. h.4 (sym q ∙ eqb-true n 17 g)))
whole_by n (Other k) h false false false e f g = refl

whole_holds : (n : ℕ) (t : Transport) → IsTransport t → box_holds (whole_protocol n) t ≡ (n == number_of t)
whole_holds n t h = whole_by n t h (n == 1) (n == 6) (n == 17) refl refl refl

number_low : (t : Transport) → IsTransport t → 1 ≤ number_of t
number_low (Tcp x y g) h = omega arith
number_low (Udp x y) h = omega arith
number_low (Icmp x y) h = omega arith
number_low (Other n) h = let x = h.1 in omega arith

number_high : (t : Transport) → IsTransport t → number_of t < 256
number_high (Tcp x y g) h = omega arith
number_high (Udp x y) h = omega arith
number_high (Icmp x y) h = omega arith
number_high (Other n) h = h.0

-- a set of one protocol holds transports of that protocol alone
holds_own : (b : TransportBox) (t : Transport) → protocol_of b ≢ 0 → box_holds b t ≡ true → number_of t ≡ protocol_of b
holds_own AnyTransport t some h = absurd (some refl)
holds_own (TcpPorts s d e) (Tcp x y g) some h = refl
holds_own (UdpPorts s d) (Udp x y) some h = refl
holds_own (IcmpTypes k c) (Icmp x y) some h = refl
holds_own (ProtocolNumber n) (Other m) some h = sym (eqb-true n m h)
holds_own b t some h = absurd (false≢true h)

pub other_is_itself : (n : ℕ) → IsOtherProtocol n → whole_protocol n ≡ ProtocolNumber n
other_is_itself n h = ap (λ b. cond b (IcmpTypes None None) (cond (n == 6) (TcpPorts all_ports all_ports false) (cond (n == 17) (UdpPorts all_ports all_ports) (ProtocolNumber n)))) (ne_false n 1 h.2)
    ∙ (ap (λ b. cond b (TcpPorts all_ports all_ports false) (cond (n == 17) (UdpPorts all_ports all_ports) (ProtocolNumber n))) (ne_false n 6 h.3)
    ∙ ap (λ b. cond b (UdpPorts all_ports all_ports) (ProtocolNumber n)) (ne_false n 17 h.4))

pub all_meet : (s : Interval) → IsPorts s → interval_meets all_ports s ≡ true
all_meet s h = let x = h.0 in let y = h.1 in meets_from all_ports s s.first (in_from all_ports s.first (omega arith) (omega arith)) (in_from s s.first (omega arith) x)

-- of the set's own protocol
own_times : (b : TransportBox) (t : Transport) → IsTransport t → IsPlainSet b → protocol_of b ≢ 0 →
    times (λ z. box_holds z t) (protocol_left (whole_protocol (protocol_of b)) b) ≡ bit (box_holds (whole_protocol (protocol_of b)) t && not (box_holds b t))
own_times AnyTransport t h gb some = absurd (some refl)
own_times (TcpPorts s d e) t h gb some =
    let b = gb.box in
    tcp_times all_ports all_ports false s d t b.0.0 b.1.0 (all_meet s b.0) (all_meet d b.1)
    ∙ ap (λ m. bit (box_holds (TcpPorts all_ports all_ports false) t && not (box_holds (TcpPorts s d m) t))) (sym gb.unmarked)
own_times (UdpPorts s d) t h gb some =
    let b = gb.box in
    udp_times all_ports all_ports s d t b.0.0 b.1.0 (all_meet s b.0) (all_meet d b.1)
own_times (IcmpTypes None None) t h gb some = none_of_itself (box_holds (IcmpTypes None None) t)
own_times (IcmpTypes None (Some c)) t h gb some = absurd gb.set
own_times (IcmpTypes (Some k) c) t h gb some = kinds_times k c t h
own_times (ProtocolNumber n) t h gb some =
    ap (λ w. times (λ z. box_holds z t) (protocol_left w (ProtocolNumber n))) (other_is_itself n gb.box)
    ∙ (none_of_itself (box_holds (ProtocolNumber n) t)
    ∙ ap (λ w. bit (box_holds w t && not (box_holds (ProtocolNumber n) t))) (sym (other_is_itself n gb.box)))

whole_left_times : (b : TransportBox) (n : ℕ) (t : Transport) → IsTransport t → IsPlainSet b → protocol_of b ≢ 0 →
    times (λ z. box_holds z t) (whole_left b n) ≡ cond (n == protocol_of b) (bit ((n == number_of t) && not (box_holds b t))) (bit (n == number_of t))
whole_left_times b n t h gb some = go (n == protocol_of b) refl
  where
    go : (c : Bool) → (n == protocol_of b) ≡ c → times (λ z. box_holds z t) (cond c (protocol_left (whole_protocol n) b) (whole_protocol n ∷ [])) ≡ cond c (bit ((n == number_of t) && not (box_holds b t))) (bit (n == number_of t))
    go true e =
        let is : n ≡ protocol_of b = eqb-true n (protocol_of b) e in
        ap (λ k. times (λ z. box_holds z t) (protocol_left (whole_protocol k) b)) is
        ∙ (own_times b t h gb some ∙ (ap (λ k. bit (box_holds (whole_protocol k) t && not (box_holds b t))) (sym is) ∙ ap (λ c. bit (c && not (box_holds b t))) (whole_holds n t h)))
    go false e = let f = ap bit (whole_holds n t h) in omega (arith, f)

no_protocol : (c m : Bool) (h : Bool) → m ≡ false → cond c (bit (m && not h)) (bit m) ≡ 0
no_protocol true m h e = ap (λ b. bit (b && not h)) e
no_protocol false m h e = ap bit e

that_protocol : (c m h : Bool) → m ≡ true → (h ≡ true → c ≡ true) → cond c (bit (m && not h)) (bit m) ≡ bit (true && not h)
that_protocol true true h e f = refl
that_protocol false true true e f = absurd (false≢true (f refl))
that_protocol false true false e f = refl
that_protocol c false h e f = absurd (false≢true e)

protocols_times : (b : TransportBox) (t : Transport) → IsTransport t → IsPlainSet b → protocol_of b ≢ 0 →
    times (λ z. box_holds z t) (flat_map (whole_left b) all_protocols) ≡ bit (true && not (box_holds b t))
protocols_times b t h gb some =
    let k = number_of t in
    times-flat_map (λ z. box_holds z t) (whole_left b) all_protocols
    ∙ (over_protocols_one (λ n. times (λ z. box_holds z t) (whole_left b n)) k (number_low t h) (number_high t h)
    (λ n ne. whole_left_times b n t h gb some ∙ no_protocol (n == protocol_of b) (n == k) (box_holds b t) (ne_false n k ne))
    ∙ (whole_left_times b k t h gb some ∙ that_protocol (k == protocol_of b) (k == k) (box_holds b t) (eq_same k) (λ held. eq-eqb k (protocol_of b) (holds_own b t some held))))

-- ---- any two sets that meet

some_times : (a b : TransportBox) (t : Transport) → IsTransport t → IsPlainSet a → IsPlainSet b → box_meets a b ≡ true → box_covers b a ≡ false →
    times (λ z. box_holds z t) (some_left a b) ≡ bit (box_holds a t && not (box_holds b t))
some_times AnyTransport b t h ga gb meets covers = protocols_times b t h gb (not_any b gb covers)
  where
    not_any : (b : TransportBox) → IsPlainSet b → box_covers b AnyTransport ≡ false → protocol_of b ≢ 0
    not_any AnyTransport g c e = false≢true (sym c)
    not_any (TcpPorts s d f) g c e = let z : ⊥ = omega (arith, e) in z
    not_any (UdpPorts s d) g c e = let z : ⊥ = omega (arith, e) in z
    not_any (IcmpTypes k o) g c e = let z : ⊥ = omega (arith, e) in z
    not_any (ProtocolNumber n) g c e = g.box.1 e
some_times (TcpPorts src dst e) b t h ga gb meets covers = protocol_times (TcpPorts src dst e) b t h ga gb meets covers (λ e. let z : ⊥ = omega (arith, e) in z)
some_times (UdpPorts src dst) b t h ga gb meets covers = protocol_times (UdpPorts src dst) b t h ga gb meets covers (λ e. let z : ⊥ = omega (arith, e) in z)
some_times (IcmpTypes kind code) b t h ga gb meets covers = protocol_times (IcmpTypes kind code) b t h ga gb meets covers (λ e. let z : ⊥ = omega (arith, e) in z)
some_times (ProtocolNumber n) b t h ga gb meets covers = protocol_times (ProtocolNumber n) b t h ga gb meets covers ga.box.1

pub transports_times : (a b : TransportBox) (t : Transport) → IsTransport t → IsPlainSet a → IsPlainSet b → box_meets a b ≡ true →
    times (λ z. box_holds z t) (transports_left a b) ≡ bit (box_holds a t && not (box_holds b t))
transports_times a b t h ga gb meets = go (box_covers b a) refl
  where
    covered_bits : (x y : Bool) → (x ≡ true → y ≡ true) → ◌≡◌ {A = ℕ} 0 (bit (x && not y))
    covered_bits true true f = refl
    covered_bits true false f = absurd (false≢true (f refl))
    covered_bits false y f = refl

    go : (c : Bool) → box_covers b a ≡ c → times (λ z. box_holds z t) (cond c [] (some_left a b)) ≡ bit (box_holds a t && not (box_holds b t))
    go true e = covered_bits (box_holds a t) (box_holds b t) (λ held. covered_holds b a t e held)
    go false e = some_times a b t h ga gb meets e
