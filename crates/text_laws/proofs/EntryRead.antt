-- An entry is told by its words.
use Rattle.std.proofs.Common.{◌≡◌, ◌∙◌, refl, sym, ap, ℕ, ◌+◌, ◌-◌, ◌%◌, ◌^◌, ◌<◌, ◌≤◌, Bool, true, false, cond, ◌&&◌, eqb, List, [], ◌∷◌, ◌++◌, arith, decimal, codes, bytes_eq, Option, Some, None, pow_pos, pow_mono}
use Rattle.std.proofs.lemmas.Bool.{and_parts, eqb-true, cond-false}
use Rattle.spoc_base.specs.Address.{Cidr, Interval, size_of, any_address}
use Rattle.spoc_base.specs.Boxes.{TransportBox, AnyTransport, TcpPorts, UdpPorts, IcmpTypes, ProtocolNumber, all_ports}
use Rattle.spoc_base.specs.declared.dialect.Dialect.{Dialect}
use Rattle.spoc_base.specs.declared.dialect.Dialect.TheVariants.{Ios, Asa}
use Rattle.acl_print.specs.Words.{dotted, mask_in}
use Rattle.device_reading.specs.Facts.{End, OnePrefix, NamedGroup, Entry, Fact, entry_text}
use Rattle.spoc_base.specs.PlainSets.{IsPorts, IsByteAsked}
use Rattle.device_reading.specs.Grammar.{IsPrefix, IsEntryBox, IsEnd, IsEntry, members_of}
use Rattle.text_laws.proofs.Numerals.{number_in, number_told, BeginsWithDigit, decimal_begins, dotted_begins, no_word, address_in, address_told, exponent, exponent_told}
use Rattle.text_laws.proofs.EntryWords.{words, mask_small, action_word, protocol_word, prefix_words, end_words, port_words, number_words, source_words, other_words, mark_words, entry_words, entry_cut}

abbrev pub head_of : List (List ℕ) → List ℕ
head_of [] = []
head_of (w ∷ ws) = w

abbrev pub tail_of : List (List ℕ) → List (List ℕ)
tail_of [] = []
tail_of (w ∷ ws) = ws

-- ---- prefixes

-- the length of the prefix that has this mask
abbrev pub length_in : Dialect → ℕ → ℕ
length_in Ios m = 32 - exponent 32 (m + 1)
length_in Asa m = 32 - exponent 32 (2 ^ 32 - m)

size_told : (p : Cidr) → p.len ≤ 32 → 32 - exponent 32 (2 ^ (32 - p.len)) ≡ p.len
size_told p h = let e = exponent_told 32 (32 - p.len) (omega arith) in omega (arith, e)

pub length_told : (dialect : Dialect) (p : Cidr) → p.len ≤ 32 → length_in dialect (mask_in dialect p) ≡ p.len
length_told Ios p h =
    let k = pow_pos (32 - p.len) in
    let e : 2 ^ (32 - p.len) - 1 + 1 ≡ 2 ^ (32 - p.len) = omega (arith, k) in
    ap (λ s. 32 - exponent 32 s) e ∙ size_told p h
length_told Asa p h =
    let l = pow_mono {i = 32 - p.len} {j = 32} (omega arith) in
    let e : 2 ^ 32 - (2 ^ 32 - 2 ^ (32 - p.len)) ≡ 2 ^ (32 - p.len) = omega (arith, l) in
    ap (λ s. 32 - exponent 32 s) e ∙ size_told p h

-- all addresses: no bit is shared
pub no_bits : (p : Cidr) → IsPrefix p → p.len ≡ 0 → any_address ≡ p
no_bits p h e =
    let size : size_of p ≡ 2 ^ 32 = ap (λ l. 2 ^ (32 - l)) e in
    let left : p.net % 2 ^ 32 ≡ 0 = ap (λ s. p.net % s) (sym size) ∙ h.good.aligned in
    let net : 0 ≡ p.net = omega (arith, left, h.low) in
    λ i. record { net = net i; len = sym e i }

-- ---- the readers

abbrev pub plain_end : Dialect → List (List ℕ) → End × List (List ℕ)
plain_end dialect ws =
    (OnePrefix (record { net = address_in (head_of ws); len = length_in dialect (address_in (head_of (tail_of ws))) }), tail_of (tail_of ws))

abbrev pub host_end : List (List ℕ) → End × List (List ℕ)
host_end ws = (OnePrefix (record { net = address_in (head_of ws); len = 32 }), tail_of ws)

abbrev pub group_end : (List ℕ → List Cidr) → List (List ℕ) → End × List (List ℕ)
group_end members ws = (NamedGroup (head_of ws) (members (head_of ws)), tail_of ws)

abbrev pub take_end : Dialect → (List ℕ → List Cidr) → List (List ℕ) → End × List (List ℕ)
take_end dialect members ws =
    cond (bytes_eq (head_of ws) (codes "any")) (OnePrefix any_address, tail_of ws)
    (cond (bytes_eq (head_of ws) (codes "host")) (host_end (tail_of ws))
    (cond (bytes_eq (head_of ws) (codes "object-group")) (group_end members (tail_of ws)) (plain_end dialect ws)))

abbrev pub take_ports : List (List ℕ) → Interval × List (List ℕ)
take_ports ws =
    cond (bytes_eq (head_of ws) (codes "eq")) (record { first = number_in (head_of (tail_of ws)); last = number_in (head_of (tail_of ws)) }, tail_of (tail_of ws))
    (cond (bytes_eq (head_of ws) (codes "range")) (record { first = number_in (head_of (tail_of ws)); last = number_in (head_of (tail_of (tail_of ws))) }, tail_of (tail_of (tail_of ws)))
    (all_ports, ws))

abbrev pub number_at : List (List ℕ) → Option ℕ
number_at [] = None
number_at (w ∷ ws) = Some (number_in w)

abbrev pub box_from : List ℕ → Interval → List (List ℕ) → TransportBox
box_from protocol src ws =
    cond (bytes_eq protocol (codes "ip")) AnyTransport
    (cond (bytes_eq protocol (codes "tcp")) (TcpPorts src (take_ports ws).0 (bytes_eq (head_of (take_ports ws).1) (codes "established")))
    (cond (bytes_eq protocol (codes "udp")) (UdpPorts src (take_ports ws).0)
    (cond (bytes_eq protocol (codes "icmp")) (IcmpTypes (number_at ws) (number_at (tail_of ws))) (ProtocolNumber (number_in protocol)))))

abbrev pub after_dst : Bool → List ℕ → End → Interval → End × List (List ℕ) → Entry
after_dst permit protocol src ports r = record { permit = permit; src = src; dst = r.0; box = box_from protocol ports r.1 }

abbrev pub after_ports : Dialect → (List ℕ → List Cidr) → Bool → List ℕ → End → Interval × List (List ℕ) → Entry
after_ports dialect members permit protocol src r = after_dst permit protocol src r.0 (take_end dialect members r.1)

abbrev pub after_src : Dialect → (List ℕ → List Cidr) → Bool → List ℕ → End × List (List ℕ) → Entry
after_src dialect members permit protocol r = after_ports dialect members permit protocol r.0 (take_ports r.1)

abbrev pub read_entry : Dialect → (List ℕ → List Cidr) → List (List ℕ) → Entry
read_entry dialect members ws =
    after_src dialect members (bytes_eq (head_of ws) (codes "permit")) (head_of (tail_of ws)) (take_end dialect members (tail_of (tail_of ws)))

-- ---- ends are told

end_of_prefix : (dialect : Dialect) (members : List ℕ → List Cidr) (p : Cidr) (rest : List (List ℕ)) → IsPrefix p →
    take_end dialect members (prefix_words dialect p ++ rest) ≡ (OnePrefix p, rest)
end_of_prefix dialect members p rest h = by (eqb p.len 0) (eqb p.len 32) refl refl
  where
    net : address_in (dotted p.net) ≡ p.net
    net = address_told p.net h.low

    mask : length_in dialect (address_in (dotted (mask_in dialect p))) ≡ p.len
    mask = ap (length_in dialect) (address_told (mask_in dialect p) (mask_small dialect p)) ∙ length_told dialect p h.good.short

    digit : BeginsWithDigit (dotted p.net)
    digit = dotted_begins p.net h.low

    plain : List (List ℕ)
    plain = dotted p.net ∷ dotted (mask_in dialect p) ∷ rest

    by : (a b : Bool) → eqb p.len 0 ≡ a → eqb p.len 32 ≡ b →
        take_end dialect members (cond a (codes "any" ∷ []) (cond b (codes "host" ∷ dotted p.net ∷ []) (dotted p.net ∷ dotted (mask_in dialect p) ∷ [])) ++ rest) ≡ (OnePrefix p, rest)
    by true b e f = let same = no_bits p h (eqb-true p.len 0 e) in λ i. (OnePrefix (same i), rest)
    by false true e f = let len = eqb-true p.len 32 f in λ i. (OnePrefix (record { net = net i; len = sym len i }), rest)
    by false false e f =
        cond-false (bytes_eq (dotted p.net) (codes "any")) _ _ (no_word (dotted p.net) 97 _ digit (omega arith))
        ∙ cond-false (bytes_eq (dotted p.net) (codes "host")) _ _ (no_word (dotted p.net) 104 _ digit (omega arith))
        ∙ cond-false (bytes_eq (dotted p.net) (codes "object-group")) _ _ (no_word (dotted p.net) 111 _ digit (omega arith))
        ∙ (λ i. (OnePrefix (record { net = net i; len = mask i }), rest))

pub end_told : (dialect : Dialect) (above : List Fact) (e : End) (rest : List (List ℕ)) → IsEnd dialect above e →
    take_end dialect (λ name. members_of name above) (end_words dialect e ++ rest) ≡ (e, rest)
end_told dialect above (OnePrefix p) rest h = end_of_prefix dialect (λ name. members_of name above) p rest h
end_told Ios above (NamedGroup name members) rest h = absurd h
end_told Asa above (NamedGroup name members) rest h = λ i. (NamedGroup name (sym h.1 i), rest)

-- ---- ports are told

pub record IsNoPort (ws : List (List ℕ)) : Type 0 where
  pub no_eq : bytes_eq (head_of ws) (codes "eq") ≡ false
  pub no_range : bytes_eq (head_of ws) (codes "range") ≡ false

no_port_of_prefix : (dialect : Dialect) (p : Cidr) (rest : List (List ℕ)) → IsPrefix p → IsNoPort (prefix_words dialect p ++ rest)
no_port_of_prefix dialect p rest h = by (eqb p.len 0) (eqb p.len 32)
  where
    digit : BeginsWithDigit (dotted p.net)
    digit = dotted_begins p.net h.low

    by : (a b : Bool) → IsNoPort (cond a (codes "any" ∷ []) (cond b (codes "host" ∷ dotted p.net ∷ []) (dotted p.net ∷ dotted (mask_in dialect p) ∷ [])) ++ rest)
    by true b = record { no_eq = refl; no_range = refl }
    by false true = record { no_eq = refl; no_range = refl }
    by false false = record { no_eq = no_word (dotted p.net) 101 _ digit (omega arith); no_range = no_word (dotted p.net) 114 _ digit (omega arith) }

pub no_port_of_end : (dialect : Dialect) (above : List Fact) (e : End) (rest : List (List ℕ)) → IsEnd dialect above e → IsNoPort (end_words dialect e ++ rest)
no_port_of_end dialect above (OnePrefix p) rest h = no_port_of_prefix dialect p rest h
no_port_of_end Ios above (NamedGroup name members) rest h = absurd h
no_port_of_end Asa above (NamedGroup name members) rest h = record { no_eq = refl; no_range = refl }

pub no_port_of_mark : (dialect : Dialect) (b : TransportBox) → IsNoPort (mark_words dialect b)
no_port_of_mark Ios AnyTransport = record { no_eq = refl; no_range = refl }
no_port_of_mark Ios (TcpPorts src dst true) = record { no_eq = refl; no_range = refl }
no_port_of_mark Ios (TcpPorts src dst false) = record { no_eq = refl; no_range = refl }
no_port_of_mark Ios (UdpPorts src dst) = record { no_eq = refl; no_range = refl }
no_port_of_mark Ios (IcmpTypes kind code) = record { no_eq = refl; no_range = refl }
no_port_of_mark Ios (ProtocolNumber number) = record { no_eq = refl; no_range = refl }
no_port_of_mark Asa b = record { no_eq = refl; no_range = refl }

nothing_told : (rest : List (List ℕ)) → IsNoPort rest → take_ports rest ≡ (all_ports, rest)
nothing_told rest n = cond-false (bytes_eq (head_of rest) (codes "eq")) _ _ n.no_eq ∙ cond-false (bytes_eq (head_of rest) (codes "range")) _ _ n.no_range

pub ports_told : (r : Interval) (rest : List (List ℕ)) → IsPorts r → IsNoPort rest → take_ports (port_words r ++ rest) ≡ (r, rest)
ports_told r rest h n = by (eqb r.first 0 && eqb r.last 65535) (eqb r.first r.last) refl refl
  where
    low : number_in (decimal r.first) ≡ r.first
    low = number_told r.first (omega (arith, h.0, h.1))

    high : number_in (decimal r.last) ≡ r.last
    high = number_told r.last (omega (arith, h.1))

    by : (a b : Bool) → (eqb r.first 0 && eqb r.last 65535) ≡ a → eqb r.first r.last ≡ b →
        take_ports (cond a [] (cond b (codes "eq" ∷ decimal r.first ∷ []) (codes "range" ∷ decimal r.first ∷ decimal r.last ∷ [])) ++ rest) ≡ (r, rest)
    by true b e f =
        let both = and_parts (eqb r.first 0) (eqb r.last 65535) e in
        let first = eqb-true r.first 0 both.0 in
        let last = eqb-true r.last 65535 both.1 in
        nothing_told rest n ∙ (λ i. (record { first = sym first i; last = sym last i }, rest))
    by false true e f =
        let one = low ∙ eqb-true r.first r.last f in
        λ i. (record { first = low i; last = one i }, rest)
    by false false e f = λ i. (record { first = low i; last = high i }, rest)

abbrev pub source_range : TransportBox → Interval
source_range (TcpPorts src dst established) = src
source_range (UdpPorts src dst) = src
source_range _ = all_ports

source_told : (dialect : Dialect) (b : TransportBox) (rest : List (List ℕ)) → IsEntryBox dialect b → IsNoPort rest → take_ports (source_words b ++ rest) ≡ (source_range b, rest)
source_told dialect AnyTransport rest h n = nothing_told rest n
source_told Ios (TcpPorts src dst e) rest h n = ports_told src rest h.0 n
source_told Asa (TcpPorts src dst e) rest h n = ports_told src rest h.0 n
source_told dialect (UdpPorts src dst) rest h n = ports_told src rest h.0 n
source_told dialect (IcmpTypes kind code) rest h n = nothing_told rest n
source_told dialect (ProtocolNumber number) rest h n = nothing_told rest n

-- ---- transports are told

established_told : (e : Bool) (src dst : Interval) → bytes_eq (head_of (mark_words Ios (TcpPorts src dst e))) (codes "established") ≡ e
established_told true src dst = refl
established_told false src dst = refl

kind_told : (kind : ℕ) (code : Option ℕ) → kind < 256 → IsByteAsked code →
    IcmpTypes (Some (number_in (decimal kind))) (number_at (number_words code ++ [])) ≡ IcmpTypes (Some kind) code
kind_told kind None h k = ap (λ n. IcmpTypes (Some n) None) (number_told kind (omega (arith, h)))
kind_told kind (Some c) h k =
    let e = number_told kind (omega (arith, h)) in
    let f = number_told c (omega (arith, k)) in
    λ i. IcmpTypes (Some (e i)) (Some (f i))

pub box_told : (dialect : Dialect) (b : TransportBox) → IsEntryBox dialect b → box_from (protocol_word b) (source_range b) (other_words b ++ mark_words dialect b) ≡ b
box_told dialect AnyTransport h = refl
box_told Ios (TcpPorts src dst e) h =
    ap (λ (r : Interval × List (List ℕ)). TcpPorts src r.0 (bytes_eq (head_of r.1) (codes "established")))
    (ports_told dst (mark_words Ios (TcpPorts src dst e)) h.1 (no_port_of_mark Ios (TcpPorts src dst e)))
    ∙ ap (TcpPorts src dst) (established_told e src dst)
box_told Asa (TcpPorts src dst e) h =
    ap (λ (r : Interval × List (List ℕ)). TcpPorts src r.0 (bytes_eq (head_of r.1) (codes "established")))
    (ports_told dst [] h.1 (no_port_of_mark Asa (TcpPorts src dst e)))
    ∙ ap (TcpPorts src dst) (sym h.2)
box_told dialect (UdpPorts src dst) h =
    ap (λ (r : Interval × List (List ℕ)). UdpPorts src r.0) (ports_told dst (mark_words dialect (UdpPorts src dst)) h.1 (no_port_of_mark dialect (UdpPorts src dst)))
box_told Ios (IcmpTypes None code) h = ap (λ c. box_from (codes "icmp") all_ports ((number_words c) ++ [])) h ∙ ap (IcmpTypes None) (sym h)
box_told Asa (IcmpTypes None code) h = ap (λ c. box_from (codes "icmp") all_ports ((number_words c) ++ [])) h ∙ ap (IcmpTypes None) (sym h)
box_told Ios (IcmpTypes (Some kind) code) h = kind_told kind code h.0 h.1
box_told Asa (IcmpTypes (Some kind) code) h = kind_told kind code h.0 h.1
box_told dialect (ProtocolNumber number) h =
    let small : number < 2 ^ 64 = omega (arith, h.0) in
    let digit = decimal_begins number small in
    cond-false (bytes_eq (decimal number) (codes "ip")) _ _ (no_word (decimal number) 105 _ digit (omega arith))
    ∙ cond-false (bytes_eq (decimal number) (codes "tcp")) _ _ (no_word (decimal number) 116 _ digit (omega arith))
    ∙ cond-false (bytes_eq (decimal number) (codes "udp")) _ _ (no_word (decimal number) 117 _ digit (omega arith))
    ∙ cond-false (bytes_eq (decimal number) (codes "icmp")) _ _ (no_word (decimal number) 105 _ digit (omega arith))
    ∙ ap ProtocolNumber (number_told number small)

action_told : (permit : Bool) → bytes_eq (action_word permit) (codes "permit") ≡ permit
action_told true = refl
action_told false = refl

-- ---- an entry is told by its text

module _ (dialect : Dialect) (above : List Fact) (e : Entry) (h : IsEntry dialect above e) where
  abbrev members : List ℕ → List Cidr
  members name = members_of name above

  abbrev last_words : List (List ℕ)
  last_words = other_words e.box ++ mark_words dialect e.box

  abbrev dst_words : List (List ℕ)
  dst_words = end_words dialect e.dst ++ last_words

  words_told : read_entry dialect members (entry_words dialect e) ≡ e
  words_told =
      ap (λ b. after_src dialect members b (protocol_word e.box) (take_end dialect members (end_words dialect e.src ++ (source_words e.box ++ dst_words)))) (action_told e.permit)
      ∙ ap (after_src dialect members e.permit (protocol_word e.box)) (end_told dialect above e.src (source_words e.box ++ dst_words) h.src)
      ∙ ap (after_ports dialect members e.permit (protocol_word e.box) e.src) (source_told dialect e.box dst_words h.box (no_port_of_end dialect above e.dst last_words h.dst))
      ∙ ap (after_dst e.permit (protocol_word e.box) e.src (source_range e.box)) (end_told dialect above e.dst last_words h.dst)
      ∙ ap (λ b. record { permit = e.permit; src = e.src; dst = e.dst; box = b }) (box_told dialect e.box h.box)

  pub entry_told : read_entry dialect members (words (entry_text dialect e)) ≡ e
  entry_told = ap (read_entry dialect members) (entry_cut dialect above e h) ∙ words_told

-- two entries with one text are one
pub entry_injective : (dialect : Dialect) (above : List Fact) (e f : Entry) → IsEntry dialect above e → IsEntry dialect above f → entry_text dialect e ≡ entry_text dialect f → e ≡ f
entry_injective dialect above e f h k same =
    sym (entry_told dialect above e h) ∙ ap (λ t. read_entry dialect (λ name. members_of name above) (words t)) same ∙ entry_told dialect above f k
