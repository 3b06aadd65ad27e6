-- The words of an entry's text.
use Rattle.std.proofs.lemmas.Bool.{both_ways, eqb-true}
use Rattle.std.proofs.Common.{pow_mono, ◌≡◌, ◌∙◌, refl, sym, ap, ℕ, ◌-◌, ◌^◌, ◌<◌, Bool, true, false, cond, ◌&&◌, eqb, List, [], ◌∷◌, ◌++◌, append_assoc, append-nil, arith, decimal, codes, Option, Some, None, pow_pos}
use Rattle.spoc_base.specs.Address.{Cidr, Interval}
use Rattle.spoc_base.specs.Boxes.{TransportBox, AnyTransport, TcpPorts, UdpPorts, IcmpTypes, ProtocolNumber}
use Rattle.spoc_base.specs.declared.dialect.Dialect.{Dialect}
use Rattle.spoc_base.specs.declared.dialect.Dialect.TheVariants.{Ios, Asa}
use Rattle.acl_print.specs.Words.{dotted, mask_in, host_text, prefix_text, action_text, protocol_text, ports_text, number_text, source_ports, other_ports, mark_text}
use Rattle.device_reading.specs.Facts.{End, OnePrefix, NamedGroup, Entry, Fact, end_text, entry_text}
use Rattle.spoc_base.specs.PlainSets.{IsPorts, IsByteAsked}
use Rattle.spoc_base.specs.Spelling.{is_word_byte}
use Rattle.device_reading.specs.Grammar.{Lacks, IsWord, IsPrefix, IsEntryBox, IsEnd, IsEntry}
use Rattle.text_laws.proofs.Pieces.{all_like, lacks_below, parts, one_part, first_part, more_parts}
use Rattle.text_laws.proofs.Numerals.{decimal_between, dotted_between}

abbrev pub words : List ℕ → List (List ℕ)
words text = parts 32 text

-- ---- what has no space

pub decimal_whole : (n : ℕ) → n < 2 ^ 64 → Lacks 32 (decimal n)
decimal_whole n h = lacks_below 48 57 32 (omega arith) (decimal n) (decimal_between n h)

pub dotted_whole : (a : ℕ) → a < 2 ^ 32 → Lacks 32 (dotted a)
dotted_whole a h = lacks_below 46 57 32 (omega arith) (dotted a) (dotted_between a h)

-- a byte below 45 is no byte of a word
pub no_word_byte : (c : ℕ) → is_word_byte c ≡ false → (b : ℕ) → is_word_byte b ≡ true → eqb b c ≡ false
no_word_byte c h b w = by (eqb b c) refl
  where
    by : (t : Bool) → eqb b c ≡ t → t ≡ false
    by false e = refl
    by true e = absurd (both_ways (is_word_byte b) (ap is_word_byte (eqb-true b c e) ∙ h) w)

pub word_lacks : (c : ℕ) → is_word_byte c ≡ false → (name : List ℕ) → IsWord name → Lacks c name
word_lacks c h name w = all_like (λ b. is_word_byte b ≡ true) (λ b. eqb b c ≡ false) (no_word_byte c h) name w.bytes

pub word_whole : (name : List ℕ) → IsWord name → Lacks 32 name
word_whole name w = word_lacks 32 refl name w

pub mask_small : (dialect : Dialect) (p : Cidr) → mask_in dialect p < 2 ^ 32
mask_small Ios p = let l = pow_mono {i = 32 - p.len} {j = 32} (omega arith) in let k = pow_pos (32 - p.len) in omega (arith, l, k)
mask_small Asa p = let k = pow_pos (32 - p.len) in omega (arith, k)

-- ---- the words of each part

abbrev pub action_word : Bool → List ℕ
action_word true = codes "permit"
action_word false = codes "deny"

abbrev pub protocol_word : TransportBox → List ℕ
protocol_word AnyTransport = codes "ip"
protocol_word (TcpPorts src dst established) = codes "tcp"
protocol_word (UdpPorts src dst) = codes "udp"
protocol_word (IcmpTypes kind code) = codes "icmp"
protocol_word (ProtocolNumber number) = decimal number

abbrev pub prefix_words : Dialect → Cidr → List (List ℕ)
prefix_words dialect p =
    cond (eqb p.len 0) (codes "any" ∷ []) (cond (eqb p.len 32) (codes "host" ∷ dotted p.net ∷ []) (dotted p.net ∷ dotted (mask_in dialect p) ∷ []))

abbrev pub end_words : Dialect → End → List (List ℕ)
end_words dialect (OnePrefix p) = prefix_words dialect p
end_words dialect (NamedGroup name members) = codes "object-group" ∷ name ∷ []

abbrev pub port_words : Interval → List (List ℕ)
port_words r =
    cond (eqb r.first 0 && eqb r.last 65535) []
    (cond (eqb r.first r.last) (codes "eq" ∷ decimal r.first ∷ []) (codes "range" ∷ decimal r.first ∷ decimal r.last ∷ []))

abbrev pub number_words : Option ℕ → List (List ℕ)
number_words None = []
number_words (Some n) = decimal n ∷ []

abbrev pub source_words : TransportBox → List (List ℕ)
source_words (TcpPorts src dst established) = port_words src
source_words (UdpPorts src dst) = port_words src
source_words _ = []

abbrev pub other_words : TransportBox → List (List ℕ)
other_words (TcpPorts src dst established) = port_words dst
other_words (UdpPorts src dst) = port_words dst
other_words (IcmpTypes kind code) = number_words kind ++ number_words code
other_words _ = []

abbrev pub mark_words : Dialect → TransportBox → List (List ℕ)
mark_words Ios (TcpPorts src dst true) = codes "established" ∷ []
mark_words _ _ = []

abbrev pub entry_words : Dialect → Entry → List (List ℕ)
entry_words dialect e =
    action_word e.permit ∷ protocol_word e.box ∷ (end_words dialect e.src ++ (source_words e.box ++ (end_words dialect e.dst ++ (other_words e.box ++ mark_words dialect e.box))))

-- ---- ends

prefix_cut : (dialect : Dialect) (p : Cidr) → IsPrefix p → words (prefix_text dialect p) ≡ prefix_words dialect p
unfolding prefix_text
prefix_cut dialect p h = by (eqb p.len 0) (eqb p.len 32)
  where
    by : (a b : Bool) → words (cond a (codes "any") (cond b (host_text p.net) ((dotted p.net ++ codes " ") ++ dotted (mask_in dialect p))))
        ≡ cond a (codes "any" ∷ []) (cond b (codes "host" ∷ dotted p.net ∷ []) (dotted p.net ∷ dotted (mask_in dialect p) ∷ []))
    by true b = refl
    by false true = ap (λ ws. codes "host" ∷ ws) (one_part 32 (dotted p.net) (dotted_whole p.net h.low))
    by false false =
        ap words (append_assoc (dotted p.net) (codes " ") (dotted (mask_in dialect p)))
        ∙ first_part 32 (dotted p.net) (dotted (mask_in dialect p)) (dotted_whole p.net h.low)
        ∙ ap (λ ws. dotted p.net ∷ ws) (one_part 32 (dotted (mask_in dialect p)) (dotted_whole (mask_in dialect p) (mask_small dialect p)))

pub end_cut : (dialect : Dialect) (above : List Fact) (e : End) → IsEnd dialect above e → words (end_text dialect e) ≡ end_words dialect e
end_cut dialect above (OnePrefix p) h = prefix_cut dialect p h
end_cut Ios above (NamedGroup name members) h = absurd h
end_cut Asa above (NamedGroup name members) h = ap (λ ws. codes "object-group" ∷ ws) (one_part 32 name (word_whole name h.0))

-- ---- ports, numbers and the mark, behind a text

pub ports_cut : (t : List ℕ) (r : Interval) → IsPorts r → words (t ++ ports_text r) ≡ words t ++ port_words r
unfolding ports_text
ports_cut t r h = by (eqb r.first 0 && eqb r.last 65535) (eqb r.first r.last)
  where
    first_small : r.first < 2 ^ 64
    first_small = omega (arith, h.0, h.1)

    last_small : r.last < 2 ^ 64
    last_small = omega (arith, h.1)

    two : List ℕ
    two = (decimal r.first ++ codes " ") ++ decimal r.last

    cut_two : words two ≡ decimal r.first ∷ decimal r.last ∷ []
    cut_two =
        ap words (append_assoc (decimal r.first) (codes " ") (decimal r.last)) ∙ first_part 32 (decimal r.first) (decimal r.last) (decimal_whole _ first_small)
        ∙ ap (λ ws. decimal r.first ∷ ws) (one_part 32 (decimal r.last) (decimal_whole _ last_small))

    by : (a b : Bool) → words (t ++ cond a [] (cond b (codes " eq " ++ decimal r.first) (((codes " range " ++ decimal r.first) ++ codes " ") ++ decimal r.last)))
        ≡ words t ++ cond a [] (cond b (codes "eq" ∷ decimal r.first ∷ []) (codes "range" ∷ decimal r.first ∷ decimal r.last ∷ []))
    by true b = ap words (append-nil t) ∙ sym (append-nil (words t))
    by false true = more_parts 32 t (codes "eq " ++ decimal r.first) ∙ ap (λ ws. words t ++ codes "eq" ∷ ws) (one_part 32 (decimal r.first) (decimal_whole _ first_small))
    by false false = more_parts 32 t (codes "range " ++ two) ∙ ap (λ ws. words t ++ codes "range" ∷ ws) cut_two

number_cut : (t : List ℕ) (n : Option ℕ) → IsByteAsked n → words (t ++ number_text n) ≡ words t ++ number_words n
number_cut t None h = ap words (append-nil t) ∙ sym (append-nil (words t))
number_cut t (Some n) h = more_parts 32 t (decimal n) ∙ ap (λ ws. words t ++ ws) (one_part 32 (decimal n) (decimal_whole n (omega (arith, h))))

nothing_cut : (t : List ℕ) → words (t ++ []) ≡ words t ++ []
nothing_cut t = ap words (append-nil t) ∙ sym (append-nil (words t))

source_cut : (dialect : Dialect) (t : List ℕ) (b : TransportBox) → IsEntryBox dialect b → words (t ++ source_ports b) ≡ words t ++ source_words b
source_cut dialect t AnyTransport h = nothing_cut t
source_cut Ios t (TcpPorts src dst e) h = ports_cut t src h.0
source_cut Asa t (TcpPorts src dst e) h = ports_cut t src h.0
source_cut dialect t (UdpPorts src dst) h = ports_cut t src h.0
source_cut dialect t (IcmpTypes kind code) h = nothing_cut t
source_cut dialect t (ProtocolNumber number) h = nothing_cut t

numbers_cut : (t : List ℕ) (kind code : Option ℕ) → IsByteAsked kind → IsByteAsked code → words (t ++ (number_text kind ++ number_text code)) ≡ words t ++ (number_words kind ++ number_words code)
numbers_cut t kind code h k =
    ap words (sym (append_assoc t (number_text kind) (number_text code))) ∙ number_cut (t ++ number_text kind) code k ∙ ap (λ ws. ws ++ number_words code) (number_cut t kind h)
    ∙ append_assoc (words t) (number_words kind) (number_words code)

none_small : (code : Option ℕ) → code ≡ None → IsByteAsked code
none_small code e = rw e tt

other_cut : (dialect : Dialect) (t : List ℕ) (b : TransportBox) → IsEntryBox dialect b → words (t ++ other_ports b) ≡ words t ++ other_words b
other_cut dialect t AnyTransport h = nothing_cut t
other_cut Ios t (TcpPorts src dst e) h = ports_cut t dst h.1
other_cut Asa t (TcpPorts src dst e) h = ports_cut t dst h.1
other_cut dialect t (UdpPorts src dst) h = ports_cut t dst h.1
other_cut dialect t (IcmpTypes None code) h = numbers_cut t None code tt (none_small code h)
other_cut dialect t (IcmpTypes (Some kind) code) h = numbers_cut t (Some kind) code h.0 h.1
other_cut dialect t (ProtocolNumber number) h = nothing_cut t

mark_cut : (dialect : Dialect) (t : List ℕ) (b : TransportBox) → words (t ++ mark_text dialect b) ≡ words t ++ mark_words dialect b
mark_cut Ios t AnyTransport = nothing_cut t
mark_cut Ios t (TcpPorts src dst true) = more_parts 32 t (codes "established")
mark_cut Ios t (TcpPorts src dst false) = nothing_cut t
mark_cut Ios t (UdpPorts src dst) = nothing_cut t
mark_cut Ios t (IcmpTypes kind code) = nothing_cut t
mark_cut Ios t (ProtocolNumber number) = nothing_cut t
mark_cut Asa t b = nothing_cut t

-- ---- action and protocol, before a text

protocol_small : (dialect : Dialect) (number : ℕ) → IsEntryBox dialect (ProtocolNumber number) → number < 2 ^ 64
protocol_small dialect number h = omega (arith, h.0)

protocol_cut : (dialect : Dialect) (b : TransportBox) (t : List ℕ) → IsEntryBox dialect b → words (protocol_text b ++ t) ≡ protocol_word b ∷ words t
protocol_cut dialect AnyTransport t h = refl
protocol_cut dialect (TcpPorts src dst e) t h = refl
protocol_cut dialect (UdpPorts src dst) t h = refl
protocol_cut dialect (IcmpTypes kind code) t h = refl
protocol_cut dialect (ProtocolNumber number) t h =
    ap words (append_assoc (decimal number) (codes " ") t) ∙ first_part 32 (decimal number) t (decimal_whole number (protocol_small dialect number h))

action_cut : (permit : Bool) (t : List ℕ) → words (action_text permit ++ t) ≡ action_word permit ∷ words t
action_cut true t = refl
action_cut false t = refl

-- ---- the whole

module _ (dialect : Dialect) (above : List Fact) (e : Entry) (h : IsEntry dialect above e) where
  abbrev begin : List ℕ
  begin = (action_text e.permit ++ protocol_text e.box) ++ end_text dialect e.src

  begin_cut : words begin ≡ action_word e.permit ∷ protocol_word e.box ∷ end_words dialect e.src
  begin_cut =
      ap words (append_assoc (action_text e.permit) (protocol_text e.box) (end_text dialect e.src))
      ∙ action_cut e.permit (protocol_text e.box ++ end_text dialect e.src)
      ∙ ap (λ ws. action_word e.permit ∷ ws) (protocol_cut dialect e.box (end_text dialect e.src) h.box
      ∙ ap (λ ws. protocol_word e.box ∷ ws) (end_cut dialect above e.src h.src))

  abbrev source : List ℕ
  source = begin ++ source_ports e.box

  source_is : words source ≡ (action_word e.permit ∷ protocol_word e.box ∷ end_words dialect e.src) ++ source_words e.box
  source_is = source_cut dialect begin e.box h.box ∙ ap (λ ws. ws ++ source_words e.box) begin_cut

  abbrev both : List ℕ
  both = (source ++ codes " ") ++ end_text dialect e.dst

  both_is : words both ≡ ((action_word e.permit ∷ protocol_word e.box ∷ end_words dialect e.src) ++ source_words e.box) ++ end_words dialect e.dst
  both_is =
      ap words (append_assoc source (codes " ") (end_text dialect e.dst)) ∙ more_parts 32 source (end_text dialect e.dst)
      ∙ (λ i. source_is i ++ end_cut dialect above e.dst h.dst i)

  pub entry_cut : words (entry_text dialect e) ≡ entry_words dialect e
  unfolding entry_text
  entry_cut =
      mark_cut dialect (both ++ other_ports e.box) e.box
      ∙ ap (λ ws. ws ++ mark_words dialect e.box) (other_cut dialect both e.box h.box ∙ ap (λ ws. ws ++ other_words e.box) both_is)
      ∙ simp append_assoc
