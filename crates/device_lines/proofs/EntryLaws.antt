-- An entry is read exactly.
use Rattle.std.proofs.Common.{◌≡◌, ◌∙◌, refl, sym, ap, subst, ℕ, ◌<◌, ◌≤◌, eqb, Bool, true, false, not, cond, ◌&&◌, List, [], ◌∷◌, ◌++◌, arith, decimal, codes, bytes_eq, Option, Some, None, option_and_then, option_map}
use Rattle.std.proofs.lemmas.Bool.{and_parts, and_from, not-true, cond-true, cond-false, eqb-false, ne_eqb, not_from_false, or_from}
use Rattle.std.proofs.lemmas.Option.{none-some, same_Some}
use Rattle.std.proofs.lemmas.Slice.Eq.{bytes_eq-Decides}
use Rattle.spoc_base.specs.Address.{Cidr, Interval}
use Rattle.spoc_base.specs.Boxes.{TransportBox, AnyTransport, TcpPorts, UdpPorts, IcmpTypes, ProtocolNumber, IsOtherProtocol, all_ports}
use Rattle.spoc_base.specs.declared.dialect.Dialect.{Dialect}
use Rattle.spoc_base.specs.declared.dialect.Dialect.TheVariants.{Ios, Asa}
use Rattle.policy_model.specs.Lists.{is_nothing}
use Rattle.device_lines.specs.Numbers.{number_to}
use Rattle.device_reading.specs.Facts.{End, OnePrefix, NamedGroup, Entry}
use Rattle.spoc_base.specs.PlainSets.{IsPorts, IsByteAsked}
use Rattle.device_reading.specs.Grammar.{IsEntryBox}
use Rattle.text_laws.proofs.Numerals.{decimal_begins, no_word}
use Rattle.text_laws.proofs.EntryWords.{action_word, protocol_word, end_words, port_words, source_words, other_words, mark_words, entry_words}
use Rattle.text_laws.proofs.EntryRead.{source_range, IsNoPort, no_port_of_end, no_port_of_mark}
use Rattle.device_lines.specs.Alone.{IsEndAlone, IsEntryAlone}
use Rattle.device_lines.specs.Entries.{first_word, take_end, take_ports, has_ports, take_source, if_nothing, mark_in, tcp_in, udp_in, code_in, icmp_in, is_other, other_in, box_in, action_in, behind_protocol, entry_behind, read_entry}
use Rattle.device_lines.proofs.NumberLaws.{bounded_back, bounded_there, some_then, some_map}
use Rattle.device_lines.proofs.EndLaws.{nothing_there, end_there, end_back, ports_there, ports_back}

-- ---- transports: what is read is there

-- the words behind the destination, where these were the source ports
record IsBoxTaken (dialect : Dialect) (protocol : List ℕ) (src : Interval) (ws : List (List ℕ)) (b : TransportBox) : Type 0 where
  name : protocol ≡ protocol_word b
  good : IsEntryBox dialect b
  source : source_words b ≡ cond (has_ports protocol) (port_words src) []
  words : ws ≡ other_words b ++ mark_words dialect b

pub nothing_taken : {A : Type 0} (ws : List (List ℕ)) (x y : A) → if_nothing ws x ≡ Some y → (ws ≡ []) × (x ≡ y)
nothing_taken ws x y e = by (is_nothing ws) refl e
  where
    by : (b : Bool) → is_nothing ws ≡ b → cond b (Some x) None ≡ Some y → (ws ≡ []) × (x ≡ y)
    by true f e = (nothing_there ws f, same_Some x y e)
    by false f e = absurd (none-some y e)

mark_there : (dialect : Dialect) (src dst : Interval) (ws : List (List ℕ)) (m : Bool) → IsPorts src → IsPorts dst → mark_in dialect ws ≡ Some m → IsEntryBox dialect (TcpPorts src dst m) × (ws ≡ mark_words dialect (TcpPorts src dst m))
mark_there Ios src dst [] m h k e = subst (λ x. IsEntryBox Ios (TcpPorts src dst x) × ([] ≡ mark_words Ios (TcpPorts src dst x))) (same_Some false m e) ((h, k), refl)
mark_there Asa src dst [] m h k e = subst (λ x. IsEntryBox Asa (TcpPorts src dst x) × ([] ≡ mark_words Asa (TcpPorts src dst x))) (same_Some false m e) ((h, k, refl), refl)
mark_there Ios src dst (w ∷ []) m h k e = by (bytes_eq w (codes "established")) refl e
  where
    by : (b : Bool) → bytes_eq w (codes "established") ≡ b → cond b (Some true) None ≡ Some m → IsEntryBox Ios (TcpPorts src dst m) × (w ∷ [] ≡ mark_words Ios (TcpPorts src dst m))
    by true f e = subst (λ x. IsEntryBox Ios (TcpPorts src dst x) × (w ∷ [] ≡ mark_words Ios (TcpPorts src dst x))) (same_Some true m e) ((h, k), ap (λ v. v ∷ []) ((bytes_eq-Decides w (codes "established")).0 f))
    by false f e = absurd (none-some m e)
mark_there Asa src dst (w ∷ []) m h k e = absurd (none-some m e)
mark_there Ios src dst (w ∷ v ∷ ws) m h k e = absurd (none-some m e)
mark_there Asa src dst (w ∷ v ∷ ws) m h k e = absurd (none-some m e)

tcp_there : (dialect : Dialect) (src : Interval) (ws : List (List ℕ)) (b : TransportBox) → IsPorts src → tcp_in dialect src ws ≡ Some b → IsBoxTaken dialect (codes "tcp") src ws b
tcp_there dialect src ws b h e =
    let x = some_then {B = TransportBox} (λ (r : Interval × List (List ℕ)). option_map (TcpPorts src r.0) (mark_in dialect r.1)) (take_ports ws) b e in
    let y = some_map (TcpPorts src x.0.0) (mark_in dialect x.0.1) b x.2 in
    let p = ports_there ws x.0.0 x.0.1 x.1 in
    let m = mark_there dialect src x.0.0 x.0.1 y.0 h p.good y.1 in
    subst (IsBoxTaken dialect (codes "tcp") src ws) y.2 (record { name = refl; good = m.0; source = refl; words = p.words ∙ ap (λ l. port_words x.0.0 ++ l) m.1 })

no_mark : (dialect : Dialect) (src dst : Interval) → mark_words dialect (UdpPorts src dst) ≡ []
no_mark Ios src dst = refl
no_mark Asa src dst = refl

udp_there : (dialect : Dialect) (src : Interval) (ws : List (List ℕ)) (b : TransportBox) → IsPorts src → udp_in src ws ≡ Some b → IsBoxTaken dialect (codes "udp") src ws b
udp_there dialect src ws b h e =
    let x = some_then {B = TransportBox} (λ (r : Interval × List (List ℕ)). if_nothing r.1 (UdpPorts src r.0)) (take_ports ws) b e in
    let y = nothing_taken x.0.1 (UdpPorts src x.0.0) b x.2 in
    let p = ports_there ws x.0.0 x.0.1 x.1 in
    subst (IsBoxTaken dialect (codes "udp") src ws) y.1
    (record { name = refl; good = (h, p.good); source = refl; words = p.words ∙ ap (λ l. port_words x.0.0 ++ l) (y.0 ∙ sym (no_mark dialect src x.0.0)) })

icmp_mark : (dialect : Dialect) (kind code : Option ℕ) → mark_words dialect (IcmpTypes kind code) ≡ []
icmp_mark Ios kind code = refl
icmp_mark Asa kind code = refl

icmp_there : (dialect : Dialect) (src : Interval) (ws : List (List ℕ)) (b : TransportBox) → icmp_in ws ≡ Some b → IsBoxTaken dialect (codes "icmp") src ws b
icmp_there dialect src [] b e =
    subst (IsBoxTaken dialect (codes "icmp") src []) (same_Some (IcmpTypes None None) b e) (record { name = refl; good = refl; source = refl; words = sym (icmp_mark dialect None None) })
icmp_there dialect src (k ∷ []) b e =
    let x = some_then (λ n. Some (IcmpTypes (Some n) None)) (number_to 255 k) b e in
    let t = bounded_there 255 x.0 k x.1 in
    let low = t.low in
    subst (IsBoxTaken dialect (codes "icmp") src (k ∷ [])) (same_Some (IcmpTypes (Some x.0) None) b x.2)
    (record { name = refl; good = (omega arith, tt); source = refl; words = (λ i. t.spelled i ∷ []) ∙ ap (λ l. decimal x.0 ∷ l) (sym (icmp_mark dialect (Some x.0) None)) })
icmp_there dialect src (k ∷ c ∷ []) b e =
    let x = some_then (λ n. option_map (λ m. IcmpTypes (Some n) (Some m)) (number_to 255 c)) (number_to 255 k) b e in
    let y = some_map (λ m. IcmpTypes (Some x.0) (Some m)) (number_to 255 c) b x.2 in
    let t = bounded_there 255 x.0 k x.1 in
    let u = bounded_there 255 y.0 c y.1 in
    let low = t.low in
    let code_low = u.low in
    subst (IsBoxTaken dialect (codes "icmp") src (k ∷ c ∷ [])) y.2
    (record { name = refl; good = (omega arith, omega arith); source = refl; words = (λ i. t.spelled i ∷ u.spelled i ∷ []) ∙ ap (λ l. decimal x.0 ∷ decimal y.0 ∷ l) (sym (icmp_mark dialect (Some x.0) (Some y.0))) })
icmp_there dialect src (k ∷ c ∷ w ∷ ws) b e = let x = some_then {A = ℕ} {B = TransportBox} (λ n. None) (number_to 255 k) b e in absurd (none-some b x.2)

other_mark : (dialect : Dialect) (n : ℕ) → mark_words dialect (ProtocolNumber n) ≡ []
other_mark Ios n = refl
other_mark Asa n = refl

other_good : (n : ℕ) → n ≤ 255 → is_other n ≡ true → IsOtherProtocol n
other_good n h e =
    let a = and_parts (not (eqb n 0) && not (eqb n 1) && not (eqb n 6)) (not (eqb n 17)) e in
    let b = and_parts (not (eqb n 0) && not (eqb n 1)) (not (eqb n 6)) a.0 in
    let c = and_parts (not (eqb n 0)) (not (eqb n 1)) b.0 in
    (omega arith, eqb-false n 0 (not-true _ c.0), eqb-false n 1 (not-true _ c.1), eqb-false n 6 (not-true _ b.1), eqb-false n 17 (not-true _ a.1))

other_there : (dialect : Dialect) (protocol : List ℕ) (src : Interval) (ws : List (List ℕ)) (b : TransportBox) → has_ports protocol ≡ false → other_in protocol ws ≡ Some b → IsBoxTaken dialect protocol src ws b
other_there dialect protocol src ws b none e =
    let x = some_then (λ n. cond (is_other n) (if_nothing ws (ProtocolNumber n)) None) (number_to 255 protocol) b e in
    let t = bounded_there 255 x.0 protocol x.1 in
    by x.0 t.spelled t.low (is_other x.0) refl x.2
  where
    by : (n : ℕ) → protocol ≡ decimal n → n ≤ 255 → (o : Bool) → is_other n ≡ o → cond o (if_nothing ws (ProtocolNumber n)) None ≡ Some b → IsBoxTaken dialect protocol src ws b
    by n f h true g e =
        let y = nothing_taken ws (ProtocolNumber n) b e in
        subst (IsBoxTaken dialect protocol src ws) y.1 (record { name = f; good = other_good n h g; source = sym (ap (λ p. cond p (port_words src) []) none); words = y.0 ∙ sym (other_mark dialect n) })
    by n f h false g e = absurd (none-some b e)

any_mark : (dialect : Dialect) → mark_words dialect AnyTransport ≡ []
any_mark Ios = refl
any_mark Asa = refl

-- where the protocol is this word
at_word : (dialect : Dialect) (protocol word : List ℕ) (src : Interval) (ws : List (List ℕ)) (b : TransportBox) → bytes_eq protocol word ≡ true → IsBoxTaken dialect word src ws b → IsBoxTaken dialect protocol src ws b
at_word dialect protocol word src ws b e h = subst (λ p. IsBoxTaken dialect p src ws b) (sym ((bytes_eq-Decides protocol word).0 e)) h

box_there : (dialect : Dialect) (protocol : List ℕ) (src : Interval) (ws : List (List ℕ)) (b : TransportBox) → IsPorts src → box_in dialect protocol src ws ≡ Some b → IsBoxTaken dialect protocol src ws b
box_there dialect protocol src ws b h e = by (bytes_eq protocol (codes "ip")) (bytes_eq protocol (codes "tcp")) (bytes_eq protocol (codes "udp")) (bytes_eq protocol (codes "icmp")) refl refl refl refl e
  where
    by : (i t u c : Bool) → bytes_eq protocol (codes "ip") ≡ i → bytes_eq protocol (codes "tcp") ≡ t → bytes_eq protocol (codes "udp") ≡ u → bytes_eq protocol (codes "icmp") ≡ c →
        cond i (if_nothing ws AnyTransport) (cond t (tcp_in dialect src ws) (cond u (udp_in src ws) (cond c (icmp_in ws) (other_in protocol ws)))) ≡ Some b → IsBoxTaken dialect protocol src ws b
    by true t u c f g k l e =
        let y = nothing_taken ws AnyTransport b e in
        at_word dialect protocol (codes "ip") src ws b f (subst (IsBoxTaken dialect (codes "ip") src ws) y.1 (record { name = refl; good = tt; source = refl; words = y.0 ∙ sym (any_mark dialect) }))
    by false true u c f g k l e = at_word dialect protocol (codes "tcp") src ws b g (tcp_there dialect src ws b h e)
    by false false true c f g k l e = at_word dialect protocol (codes "udp") src ws b k (udp_there dialect src ws b h e)
    by false false false true f g k l e = at_word dialect protocol (codes "icmp") src ws b l (icmp_there dialect src ws b e)
    by false false false false f g k l e = other_there dialect protocol src ws b (or_from (bytes_eq protocol (codes "tcp")) (bytes_eq protocol (codes "udp")) g k) e

-- ---- the whole: what is read is there

record IsSourceTaken (protocol : List ℕ) (ws : List (List ℕ)) (src : Interval) (rest : List (List ℕ)) : Type 0 where
  good : IsPorts src
  words : ws ≡ cond (has_ports protocol) (port_words src) [] ++ rest

source_there : (protocol : List ℕ) (ws : List (List ℕ)) (src : Interval) (rest : List (List ℕ)) → take_source protocol ws ≡ Some (src, rest) → IsSourceTaken protocol ws src rest
source_there protocol ws src rest e = by (has_ports protocol) refl e
  where
    by : (b : Bool) → has_ports protocol ≡ b → cond b (take_ports ws) (Some (all_ports, ws)) ≡ Some (src, rest) → IsSourceTaken protocol ws src rest
    by true f e = let p = ports_there ws src rest e in record { good = p.good; words = p.words ∙ ap (λ b. cond b (port_words src) [] ++ rest) (sym f) }
    by false f e =
        subst (λ (q : Interval × List (List ℕ)). IsSourceTaken protocol ws q.0 q.1) (same_Some {A = Interval × List (List ℕ)} (all_ports, ws) (src, rest) e)
        (record { good = (omega arith, omega arith); words = ap (λ b. cond b (port_words all_ports) [] ++ ws) (sym f) })

pub record IsRead (dialect : Dialect) (ws : List (List ℕ)) (e : Entry) : Type 0 where
  pub good : IsEntryAlone dialect e
  pub words : ws ≡ entry_words dialect e

behind_there : (dialect : Dialect) (permit : Bool) (protocol : List ℕ) (ws : List (List ℕ)) (e : Entry) → behind_protocol dialect permit protocol ws ≡ Some e →
    IsRead dialect (action_word permit ∷ protocol ∷ ws) e
behind_there dialect permit protocol ws e f =
    let Boxed : End → Interval → End × List (List ℕ) → Option Entry = λ s p d. option_map (λ b. record { permit = permit; src = s; dst = d.0; box = b }) (box_in dialect protocol p d.1) in
    let x = some_then {B = Entry} (λ (s : End × List (List ℕ)). option_and_then (λ (p : Interval × List (List ℕ)). option_and_then (Boxed s.0 p.0) (take_end dialect p.1)) (take_source protocol s.1)) (take_end dialect ws) e f in
    let y = some_then {B = Entry} (λ (p : Interval × List (List ℕ)). option_and_then (Boxed x.0.0 p.0) (take_end dialect p.1)) (take_source protocol x.0.1) e x.2 in
    let z = some_then {B = Entry} (Boxed x.0.0 y.0.0) (take_end dialect y.0.1) e y.2 in
    let v = some_map {B = Entry} (λ b. record { permit = permit; src = x.0.0; dst = z.0.0; box = b }) (box_in dialect protocol y.0.0 z.0.1) e z.2 in
    let src = end_there dialect ws x.0.0 x.0.1 x.1 in
    let ports = source_there protocol x.0.1 y.0.0 y.0.1 y.1 in
    let dst = end_there dialect y.0.1 z.0.0 z.0.1 z.1 in
    let box = box_there dialect protocol y.0.0 z.0.1 v.0 ports.good v.1 in
    subst (IsRead dialect (action_word permit ∷ protocol ∷ ws)) v.2
    (record {
      good = record { src = src.good; dst = dst.good; box = box.good };
      words = λ i. action_word permit ∷ box.name i ∷ (src.words ∙ ap (λ l. end_words dialect x.0.0 ++ l) (ports.words ∙ (λ j. sym box.source j ++ (dst.words ∙ ap (λ l. end_words dialect z.0.0 ++ l) box.words) j))) i;
    })

pub entry_there : (dialect : Dialect) (a : List ℕ) (ws : List (List ℕ)) (e : Entry) → entry_behind dialect a ws ≡ Some e → IsRead dialect (a ∷ ws) e
entry_there dialect a ws e f =
    let x = some_then {B = Entry} (λ permit. option_and_then (λ (r : List ℕ × List (List ℕ)). behind_protocol dialect permit r.0 r.1) (first_word ws)) (action_in a) e f in
    let y = some_then {B = Entry} (λ (r : List ℕ × List (List ℕ)). behind_protocol dialect x.0 r.0 r.1) (first_word ws) e x.2 in
    subst (λ l. IsRead dialect l e) (λ i. sym (action_there a x.0 x.1) i ∷ sym (word_there ws y.0 y.1) i) (behind_there dialect x.0 y.0.0 y.0.1 e y.2)
  where
    word_there : (ws : List (List ℕ)) (r : List ℕ × List (List ℕ)) → first_word ws ≡ Some r → ws ≡ r.0 ∷ r.1
    word_there [] r e = absurd (none-some r e)
    word_there (w ∷ ws) r e = ap (λ (q : List ℕ × List (List ℕ)). q.0 ∷ q.1) (same_Some {A = List ℕ × List (List ℕ)} (w, ws) r e)

    action_there : (a : List ℕ) (permit : Bool) → action_in a ≡ Some permit → a ≡ action_word permit
    action_there a permit e = by (bytes_eq a (codes "permit")) (bytes_eq a (codes "deny")) refl refl e
      where
        by : (p d : Bool) → bytes_eq a (codes "permit") ≡ p → bytes_eq a (codes "deny") ≡ d → cond p (Some true) (cond d (Some false) None) ≡ Some permit → a ≡ action_word permit
        by true d f g e = (bytes_eq-Decides a (codes "permit")).0 f ∙ ap action_word (same_Some true permit e)
        by false true f g e = (bytes_eq-Decides a (codes "deny")).0 g ∙ ap action_word (same_Some false permit e)
        by false false f g e = absurd (none-some permit e)

-- ---- transports: what is there is read

mark_back : (src dst : Interval) (m : Bool) → mark_in Ios (mark_words Ios (TcpPorts src dst m)) ≡ Some m
mark_back src dst true = refl
mark_back src dst false = refl

tcp_back : (dialect : Dialect) (src dst : Interval) (m : Bool) → IsPorts dst → mark_in dialect (mark_words dialect (TcpPorts src dst m)) ≡ Some m →
    tcp_in dialect src (port_words dst ++ mark_words dialect (TcpPorts src dst m)) ≡ Some (TcpPorts src dst m)
tcp_back dialect src dst m h e =
    ap (option_and_then (λ (r : Interval × List (List ℕ)). option_map (TcpPorts src r.0) (mark_in dialect r.1))) (ports_back dst (mark_words dialect (TcpPorts src dst m)) h (no_port_of_mark dialect (TcpPorts src dst m)))
    ∙ ap (option_map (TcpPorts src dst)) e

udp_back : (dialect : Dialect) (src dst : Interval) → IsPorts dst → udp_in src (port_words dst ++ mark_words dialect (UdpPorts src dst)) ≡ Some (UdpPorts src dst)
udp_back dialect src dst h =
    ap (option_and_then (λ (r : Interval × List (List ℕ)). if_nothing r.1 (UdpPorts src r.0))) (ports_back dst (mark_words dialect (UdpPorts src dst)) h (no_port_of_mark dialect (UdpPorts src dst)))
    ∙ ap (λ l. if_nothing l (UdpPorts src dst)) (no_mark dialect src dst)

icmp_back : (kind : ℕ) (code : Option ℕ) → kind < 256 → IsByteAsked code → icmp_in (other_words (IcmpTypes (Some kind) code) ++ []) ≡ Some (IcmpTypes (Some kind) code)
icmp_back kind None h k = ap (option_and_then (λ n. Some (IcmpTypes (Some n) None))) (bounded_back 255 kind (omega arith) (omega arith))
icmp_back kind (Some c) h k =
    ap (option_and_then (λ n. option_map (λ m. IcmpTypes (Some n) (Some m)) (number_to 255 (decimal c)))) (bounded_back 255 kind (omega arith) (omega arith))
    ∙ ap (option_map (λ m. IcmpTypes (Some kind) (Some m))) (bounded_back 255 c (omega arith) (omega arith))

no_type : (code : Option ℕ) → code ≡ None → icmp_in (other_words (IcmpTypes None code) ++ []) ≡ Some (IcmpTypes None code)
no_type code e = ap (λ c. icmp_in (other_words (IcmpTypes None c) ++ [])) e ∙ ap (λ c. Some (IcmpTypes None c)) (sym e)

other_is : (n : ℕ) → IsOtherProtocol n → is_other n ≡ true
other_is n h = and_from _ _ (and_from _ _ (and_from _ _ (not_from_false _ (ne_eqb n 0 h.1)) (not_from_false _ (ne_eqb n 1 h.2))) (not_from_false _ (ne_eqb n 6 h.3))) (not_from_false _ (ne_eqb n 17 h.4))

other_back : (n : ℕ) → IsOtherProtocol n → other_in (decimal n) [] ≡ Some (ProtocolNumber n)
other_back n h =
    ap (option_and_then (λ n. cond (is_other n) (if_nothing [] (ProtocolNumber n)) None)) (bounded_back 255 n (omega arith) (let l = h.0 in omega (arith, l)))
    ∙ cond-true (is_other n) (Some (ProtocolNumber n)) None (other_is n h)

no_letter : (n c : ℕ) (cs : List ℕ) → n < 256 → 57 < c → bytes_eq (decimal n) (c ∷ cs) ≡ false
no_letter n c cs h k = no_word (decimal n) c cs (decimal_begins n (omega arith)) k

box_back : (dialect : Dialect) (b : TransportBox) → IsEntryBox dialect b → box_in dialect (protocol_word b) (source_range b) (other_words b ++ mark_words dialect b) ≡ Some b
box_back Ios AnyTransport h = refl
box_back Asa AnyTransport h = refl
box_back Ios (TcpPorts src dst m) h = tcp_back Ios src dst m h.1 (mark_back src dst m)
box_back Asa (TcpPorts src dst m) h = tcp_back Asa src dst m h.1 (ap Some (sym h.2))
box_back dialect (UdpPorts src dst) h = udp_back dialect src dst h.1
box_back Ios (IcmpTypes None code) h = no_type code h
box_back Asa (IcmpTypes None code) h = no_type code h
box_back Ios (IcmpTypes (Some kind) code) h = icmp_back kind code h.0 h.1
box_back Asa (IcmpTypes (Some kind) code) h = icmp_back kind code h.0 h.1
box_back dialect (ProtocolNumber n) h =
    let low = h.0 in
    cond-false (bytes_eq (decimal n) (codes "ip")) _ _ (no_letter n 105 _ low (omega arith))
    ∙ cond-false (bytes_eq (decimal n) (codes "tcp")) _ _ (no_letter n 116 _ low (omega arith))
    ∙ cond-false (bytes_eq (decimal n) (codes "udp")) _ _ (no_letter n 117 _ low (omega arith))
    ∙ cond-false (bytes_eq (decimal n) (codes "icmp")) _ _ (no_letter n 105 _ low (omega arith))
    ∙ ap (other_in (decimal n)) (other_mark dialect n)
    ∙ other_back n h

source_back : (dialect : Dialect) (b : TransportBox) (rest : List (List ℕ)) → IsEntryBox dialect b → IsNoPort rest → take_source (protocol_word b) (source_words b ++ rest) ≡ Some (source_range b, rest)
source_back dialect AnyTransport rest h n = refl
source_back Ios (TcpPorts src dst m) rest h n = ports_back src rest h.0 n
source_back Asa (TcpPorts src dst m) rest h n = ports_back src rest h.0 n
source_back dialect (UdpPorts src dst) rest h n = ports_back src rest h.0 n
source_back dialect (IcmpTypes kind code) rest h n = refl
source_back dialect (ProtocolNumber m) rest h n =
    let low = h.0 in
    cond-false (has_ports (decimal m)) _ _ (or_from (bytes_eq (decimal m) (codes "tcp")) (bytes_eq (decimal m) (codes "udp")) (no_letter m 116 _ low (omega arith)) (no_letter m 117 _ low (omega arith)))

-- ---- the whole: what is there is read

no_port_of_alone : (dialect : Dialect) (e : End) (rest : List (List ℕ)) → IsEndAlone dialect e → IsNoPort (end_words dialect e ++ rest)
no_port_of_alone dialect (OnePrefix p) rest h = no_port_of_end dialect [] (OnePrefix p) rest h
no_port_of_alone Ios (NamedGroup name members) rest h = absurd h
no_port_of_alone Asa (NamedGroup name members) rest h = record { no_eq = refl; no_range = refl }

module _ (dialect : Dialect) (e : Entry) (h : IsEntryAlone dialect e) where
  abbrev last_words : List (List ℕ)
  last_words = other_words e.box ++ mark_words dialect e.box

  abbrev dst_words : List (List ℕ)
  dst_words = end_words dialect e.dst ++ last_words

  abbrev boxed : End → Interval → End × List (List ℕ) → Option Entry
  boxed s p d = option_map (λ b. record { permit = e.permit; src = s; dst = d.0; box = b }) (box_in dialect (protocol_word e.box) p d.1)

  abbrev ported : End → Interval × List (List ℕ) → Option Entry
  ported s p = option_and_then (boxed s p.0) (take_end dialect p.1)

  behind_back : behind_protocol dialect e.permit (protocol_word e.box) (end_words dialect e.src ++ (source_words e.box ++ dst_words)) ≡ Some e
  behind_back =
      ap (option_and_then (λ (s : End × List (List ℕ)). option_and_then (ported s.0) (take_source (protocol_word e.box) s.1))) (end_back dialect e.src (source_words e.box ++ dst_words) h.src)
      ∙ ap (option_and_then (ported e.src)) (source_back dialect e.box dst_words h.box (no_port_of_alone dialect e.dst last_words h.dst))
      ∙ ap (option_and_then (boxed e.src (source_range e.box))) (end_back dialect e.dst last_words h.dst)
      ∙ ap (option_map (λ b. record { permit = e.permit; src = e.src; dst = e.dst; box = b })) (box_back dialect e.box h.box)

  action_back : (permit : Bool) → action_in (action_word permit) ≡ Some permit
  action_back true = refl
  action_back false = refl

  pub entry_back : entry_behind dialect (action_word e.permit) (protocol_word e.box ∷ (end_words dialect e.src ++ (source_words e.box ++ dst_words))) ≡ Some e
  entry_back =
      ap (option_and_then (λ permit. behind_protocol dialect permit (protocol_word e.box) (end_words dialect e.src ++ (source_words e.box ++ dst_words)))) (action_back e.permit) ∙ behind_back
