-- Packets and headers with their marks set aside, and when two headers are one.
use Rattle.std.proofs.Common.{◌≡◌, ℕ, Bool, true, false, ◌&&◌, refl, sym, ap, ◌∙◌}
use Rattle.std.specs.Prelude.{◌==◌, Some, Option}
use Rattle.std.proofs.lemmas.Bool.{and_parts, and_from, eqb-true, eq-eqb, false≢true}
use Rattle.spoc_base.specs.declared.transport.Transport.{Transport}
use Rattle.spoc_base.specs.declared.transport.Transport.TheVariants as packet
use Rattle.policy_model.specs.Permits.{Packet, may_be_reply, swapped_packet, swapped_transport}
use Rattle.policy_model.specs.Packets.{Header, unmarked, unmarked_transport, same_mark, same_transport, same_header}

-- ---- swapping

pub unmarked_swap : (t : Transport) → unmarked_transport (swapped_transport t) ≡ swapped_transport (unmarked_transport t)
unmarked_swap (packet.Tcp s d e) = refl
unmarked_swap (packet.Udp s d) = refl
unmarked_swap (packet.Icmp k c) = refl
unmarked_swap (packet.Other n) = refl

pub swapped_twice : (t : Transport) → swapped_transport (swapped_transport t) ≡ t
swapped_twice (packet.Tcp s d e) = refl
swapped_twice (packet.Udp s d) = refl
swapped_twice (packet.Icmp k c) = refl
swapped_twice (packet.Other n) = refl

pub mark_stays : (t : Transport) → may_be_reply (swapped_transport t) ≡ may_be_reply t
mark_stays (packet.Tcp s d e) = refl
mark_stays (packet.Udp s d) = refl
mark_stays (packet.Icmp k c) = refl
mark_stays (packet.Other n) = refl

-- marks set aside, one is the other swapped just if the other is the one swapped
pub turn_round : (x y : Packet) → unmarked (swapped_packet x) ≡ unmarked y → unmarked x ≡ unmarked (swapped_packet y)
turn_round x y h =
    let with_transport = λ (t : Transport). let z : Packet = record { src = x.src; dst = x.dst; transport = t } in z in
    let back = λ (t : Transport). let z : Packet = record { src = y.dst; dst = y.src; transport = t } in z in
    ap with_transport (sym (swapped_twice (unmarked_transport x.transport)) ∙ ap swapped_transport (sym (unmarked_swap x.transport)))
    ∙ (ap swapped_packet h ∙ ap back (sym (unmarked_swap y.transport)))

pub turn_back : (x y : Packet) → unmarked x ≡ unmarked (swapped_packet y) → unmarked (swapped_packet x) ≡ unmarked y
turn_back x y h =
    let there = λ (t : Transport). let z : Packet = record { src = x.dst; dst = x.src; transport = t } in z in
    let with_transport = λ (t : Transport). let z : Packet = record { src = y.src; dst = y.dst; transport = t } in z in
    ap there (unmarked_swap x.transport)
    ∙ (ap swapped_packet h ∙ ap with_transport (ap swapped_transport (unmarked_swap y.transport) ∙ swapped_twice (unmarked_transport y.transport)))

-- ---- headers

one_mark : (a b : Bool) → same_mark a b ≡ true → a ≡ b
one_mark true true h = refl
one_mark true false h = absurd (false≢true h)
one_mark false true h = absurd (false≢true h)
one_mark false false h = refl

its_mark : (a : Bool) → same_mark a a ≡ true
its_mark true = refl
its_mark false = refl

pub one_transport : (t u : Transport) → same_transport t u ≡ true → t ≡ u
one_transport (packet.Tcp s d e) (packet.Tcp src dst mark) h =
    let a = and_parts ((s == src) && (d == dst)) (same_mark e mark) h in
    let b = and_parts (s == src) (d == dst) a.0 in
    ap (λ (n : ℕ). packet.Tcp n d e) (eqb-true s src b.0) ∙ (ap (λ (n : ℕ). packet.Tcp src n e) (eqb-true d dst b.1) ∙ ap (λ (k : Bool). packet.Tcp src dst k) (one_mark e mark a.1))
one_transport (packet.Udp s d) (packet.Udp src dst) h =
    let b = and_parts (s == src) (d == dst) h in
    ap (λ (n : ℕ). packet.Udp n d) (eqb-true s src b.0) ∙ ap (λ (n : ℕ). packet.Udp src n) (eqb-true d dst b.1)
one_transport (packet.Icmp k c) (packet.Icmp kind code) h =
    let b = and_parts (k == kind) (c == code) h in
    ap (λ (n : ℕ). packet.Icmp n c) (eqb-true k kind b.0) ∙ ap (λ (n : ℕ). packet.Icmp kind n) (eqb-true c code b.1)
one_transport (packet.Other n) (packet.Other number) h = ap (λ (k : ℕ). packet.Other k) (eqb-true n number h)
one_transport (packet.Tcp s d e) (packet.Udp src dst) h = absurd (false≢true h)
one_transport (packet.Tcp s d e) (packet.Icmp k c) h = absurd (false≢true h)
one_transport (packet.Tcp s d e) (packet.Other n) h = absurd (false≢true h)
one_transport (packet.Udp s d) (packet.Tcp src dst mark) h = absurd (false≢true h)
one_transport (packet.Udp s d) (packet.Icmp k c) h = absurd (false≢true h)
one_transport (packet.Udp s d) (packet.Other n) h = absurd (false≢true h)
one_transport (packet.Icmp k c) (packet.Tcp src dst mark) h = absurd (false≢true h)
one_transport (packet.Icmp k c) (packet.Udp src dst) h = absurd (false≢true h)
one_transport (packet.Icmp k c) (packet.Other n) h = absurd (false≢true h)
one_transport (packet.Other n) (packet.Tcp src dst mark) h = absurd (false≢true h)
one_transport (packet.Other n) (packet.Udp src dst) h = absurd (false≢true h)
one_transport (packet.Other n) (packet.Icmp k c) h = absurd (false≢true h)

pub its_transport : (t : Transport) → same_transport t t ≡ true
its_transport (packet.Tcp s d e) = and_from ((s == s) && (d == d)) (same_mark e e) (and_from (s == s) (d == d) (eq-eqb s s refl) (eq-eqb d d refl)) (its_mark e)
its_transport (packet.Udp s d) = and_from (s == s) (d == d) (eq-eqb s s refl) (eq-eqb d d refl)
its_transport (packet.Icmp k c) = and_from (k == k) (c == c) (eq-eqb k k refl) (eq-eqb c c refl)
its_transport (packet.Other n) = eq-eqb n n refl

pub one_header : (h g : Header) → same_header h g ≡ true → h ≡ g
one_header h g e =
    let a = and_parts ((h.src == g.src) && (h.dst == g.dst)) (same_transport h.transport g.transport) e in
    let b = and_parts (h.src == g.src) (h.dst == g.dst) a.0 in
    ap (λ (n : ℕ). let k : Header = record { src = n; dst = h.dst; transport = h.transport } in k) (eqb-true h.src g.src b.0)
    ∙ (ap (λ (n : ℕ). let k : Header = record { src = g.src; dst = n; transport = h.transport } in k) (eqb-true h.dst g.dst b.1)
    ∙ ap (λ (t : Transport). let k : Header = record { src = g.src; dst = g.dst; transport = t } in k) (one_transport h.transport g.transport a.1))

pub its_header : (h : Header) → same_header h h ≡ true
its_header h =
    and_from ((h.src == h.src) && (h.dst == h.dst)) (same_transport h.transport h.transport)
    (and_from (h.src == h.src) (h.dst == h.dst) (eq-eqb h.src h.src refl) (eq-eqb h.dst h.dst refl)) (its_transport h.transport)
