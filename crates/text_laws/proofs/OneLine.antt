-- The text of a line has no line feed.
use Rattle.std.proofs.Common.{◌≡◌, refl, ℕ, ◌<◌, ◌^◌, Bool, true, false, not, cond, ◌&&◌, eqb, List, [], ◌∷◌, ◌++◌, arith, decimal, codes, Option, Some, None}
use Rattle.std.proofs.lemmas.Bool.{and_parts, not-true}
use Rattle.spoc_base.specs.Address.{Cidr, Interval}
use Rattle.spoc_base.specs.Boxes.{TransportBox, AnyTransport, TcpPorts, UdpPorts, IcmpTypes, ProtocolNumber}
use Rattle.spoc_base.specs.declared.dialect.Dialect.{Dialect}
use Rattle.spoc_base.specs.declared.dialect.Dialect.TheVariants.{Ios, Asa}
use Rattle.acl_print.specs.Words.{dotted, mask_in, netmask_of, network_text, host_text, prefix_text, action_text, protocol_text, ports_text, number_text, source_ports, other_ports, mark_text}
use Rattle.acl_print.specs.Groups.{addresses_text}
use Rattle.device_reading.specs.Facts.{PortAt, End, OnePrefix, NamedGroup, Entry, Fact, Remark, Sends, OpensList, HasEntry, OpensPort, Binds, OpensGroup, HasMember, end_text, entry_text, ios_fact_text, asa_fact_text, fact_text}
use Rattle.spoc_base.specs.PlainSets.{IsPorts, IsByteAsked}
use Rattle.device_reading.specs.Grammar.{Lacks, IsWord, IsPrefix, IsEntryBox, IsEnd, IsEntry, IsIosFact, IsAsaFact, IsFact}
use Rattle.text_laws.proofs.Pieces.{all_append, lacks_below}
use Rattle.text_laws.proofs.Numerals.{decimal_between, dotted_between}
use Rattle.text_laws.proofs.EntryWords.{word_lacks, mask_small}
use Rattle.text_laws.specs.Printable.{AreNamed}
use Rattle.text_laws.proofs.Ports.{named_for, named_by}

abbrev pub Whole : List ℕ → Type 0
Whole text = Lacks 10 text

abbrev pub is_whole : List ℕ → Bool
is_whole [] = true
is_whole (b ∷ text) = not (eqb b 10) && is_whole text

pub literal : (text : List ℕ) → is_whole text ≡ true → Whole text
literal [] e = tt
literal (b ∷ text) e = let w = and_parts (not (eqb b 10)) (is_whole text) e in (not-true (eqb b 10) w.0, literal text w.1)

pub both : (s t : List ℕ) → Whole s → Whole t → Whole (s ++ t)
both s t h k = all_append (λ b. eqb b 10 ≡ false) s t h k

number : (n : ℕ) → n < 2 ^ 64 → Whole (decimal n)
number n h = lacks_below 48 57 10 (omega arith) (decimal n) (decimal_between n h)

address : (a : ℕ) → a < 2 ^ 32 → Whole (dotted a)
address a h = lacks_below 46 57 10 (omega arith) (dotted a) (dotted_between a h)

word : (name : List ℕ) → IsWord name → Whole name
word name w = word_lacks 10 refl name w

spaced : (s t : List ℕ) → Whole s → Whole t → Whole ((s ++ codes " ") ++ t)
spaced s t h k = both (s ++ codes " ") t (both s (codes " ") h (literal (codes " ") refl)) k

network : (net : Cidr) → IsPrefix net → Whole (network_text net)
network net h = spaced (dotted net.net) (dotted (netmask_of net)) (address net.net h.low) (address (netmask_of net) (mask_small Asa net))

host : (a : ℕ) → a < 2 ^ 32 → Whole (host_text a)
host a h = both (codes "host ") (dotted a) (literal (codes "host ") refl) (address a h)

prefix : (dialect : Dialect) (p : Cidr) → IsPrefix p → Whole (prefix_text dialect p)
unfolding prefix_text
prefix dialect p h = by (eqb p.len 0) (eqb p.len 32)
  where
    by : (a b : Bool) → Whole (cond a (codes "any") (cond b (host_text p.net) ((dotted p.net ++ codes " ") ++ dotted (mask_in dialect p))))
    by true b = literal (codes "any") refl
    by false true = host p.net h.low
    by false false = spaced (dotted p.net) (dotted (mask_in dialect p)) (address p.net h.low) (address (mask_in dialect p) (mask_small dialect p))

end : (dialect : Dialect) (above : List Fact) (e : End) → IsEnd dialect above e → Whole (end_text dialect e)
end dialect above (OnePrefix p) h = prefix dialect p h
end Ios above (NamedGroup name members) h = absurd h
end Asa above (NamedGroup name members) h = both (codes "object-group ") name (literal (codes "object-group ") refl) (word name h.0)

ports : (r : Interval) → IsPorts r → Whole (ports_text r)
unfolding ports_text
ports r h = by (eqb r.first 0 && eqb r.last 65535) (eqb r.first r.last)
  where
    first : Whole (decimal r.first)
    first = number r.first (omega (arith, h.0, h.1))

    last : Whole (decimal r.last)
    last = number r.last (omega (arith, h.1))

    by : (a b : Bool) → Whole (cond a [] (cond b (codes " eq " ++ decimal r.first) (((codes " range " ++ decimal r.first) ++ codes " ") ++ decimal r.last)))
    by true b = tt
    by false true = both (codes " eq ") (decimal r.first) (literal (codes " eq ") refl) first
    by false false = spaced (codes " range " ++ decimal r.first) (decimal r.last) (both (codes " range ") (decimal r.first) (literal (codes " range ") refl) first) last

asked : (n : Option ℕ) → IsByteAsked n → Whole (number_text n)
asked None h = tt
asked (Some n) h = both (codes " ") (decimal n) (literal (codes " ") refl) (number n (omega (arith, h)))

source : (dialect : Dialect) (b : TransportBox) → IsEntryBox dialect b → Whole (source_ports b)
source dialect AnyTransport h = tt
source Ios (TcpPorts src dst e) h = ports src h.0
source Asa (TcpPorts src dst e) h = ports src h.0
source dialect (UdpPorts src dst) h = ports src h.0
source dialect (IcmpTypes kind code) h = tt
source dialect (ProtocolNumber n) h = tt

no_code : (code : Option ℕ) → code ≡ None → Whole (number_text None ++ number_text code)
no_code code e = rw e tt

other : (dialect : Dialect) (b : TransportBox) → IsEntryBox dialect b → Whole (other_ports b)
other dialect AnyTransport h = tt
other Ios (TcpPorts src dst e) h = ports dst h.1
other Asa (TcpPorts src dst e) h = ports dst h.1
other dialect (UdpPorts src dst) h = ports dst h.1
other dialect (IcmpTypes None code) h = no_code code h
other dialect (IcmpTypes (Some kind) code) h = both (number_text (Some kind)) (number_text code) (asked (Some kind) h.0) (asked code h.1)
other dialect (ProtocolNumber n) h = tt

mark : (dialect : Dialect) (b : TransportBox) → Whole (mark_text dialect b)
mark Ios AnyTransport = tt
mark Ios (TcpPorts src dst true) = literal (codes " established") refl
mark Ios (TcpPorts src dst false) = tt
mark Ios (UdpPorts src dst) = tt
mark Ios (IcmpTypes kind code) = tt
mark Ios (ProtocolNumber n) = tt
mark Asa b = tt

action : (permit : Bool) → Whole (action_text permit)
action true = literal (codes "permit ") refl
action false = literal (codes "deny ") refl

protocol : (dialect : Dialect) (b : TransportBox) → IsEntryBox dialect b → Whole (protocol_text b)
protocol dialect AnyTransport h = literal (codes "ip ") refl
protocol dialect (TcpPorts src dst e) h = literal (codes "tcp ") refl
protocol dialect (UdpPorts src dst) h = literal (codes "udp ") refl
protocol dialect (IcmpTypes kind code) h = literal (codes "icmp ") refl
protocol dialect (ProtocolNumber n) h = both (decimal n) (codes " ") (number n (omega (arith, h.0))) (literal (codes " ") refl)

entry : (dialect : Dialect) (above : List Fact) (e : Entry) → IsEntry dialect above e → Whole (entry_text dialect e)
unfolding entry_text
entry dialect above e h =
    both _ (mark_text dialect e.box)
    (both _ (other_ports e.box)
    (spaced _ (end_text dialect e.dst)
    (both _ (source_ports e.box) (both _ (end_text dialect e.src) (both (action_text e.permit) (protocol_text e.box) (action e.permit) (protocol dialect e.box h.box)) (end dialect above e.src h.src))
    (source dialect e.box h.box))
    (end dialect above e.dst h.dst))
    (other dialect e.box h.box))
    (mark dialect e.box)

addresses : (p : Cidr) → IsPrefix p → Whole (addresses_text p)
addresses p h = by (eqb p.len 32)
  where
    by : (b : Bool) → Whole (cond b (host_text p.net) (network_text p))
    by true = host p.net h.low
    by false = network p h

module _ (ports_at : List PortAt) (named : AreNamed ports_at) (above : List Fact) where
  ios_whole : (f : Fact) → IsIosFact ports_at above f → Whole (ios_fact_text f)
  ios_whole (Remark text) h = both (codes "!") text (literal (codes "!") refl) h
  ios_whole (Sends port net gateway) h =
      spaced (codes "ip route " ++ network_text net) (dotted gateway) (both (codes "ip route ") (network_text net) (literal (codes "ip route ") refl) (network net h.net_good)) (address gateway h.gateway_good)
  ios_whole (OpensList name) h = both (codes "ip access-list extended ") name (literal (codes "ip access-list extended ") refl) (word name h.0)
  ios_whole (HasEntry list e) h = both (codes " ") (entry_text Ios e) (literal (codes " ") refl) (entry Ios above e h.1)
  ios_whole (OpensPort hardware) h = both (codes "interface ") hardware (literal (codes "interface ") refl) (word hardware (named_by ports_at hardware named h.0))
  ios_whole (Binds hardware list) h =
      both (codes " ip access-group " ++ list) (codes " in") (both (codes " ip access-group ") list (literal (codes " ip access-group ") refl) (word list h.2)) (literal (codes " in") refl)
  ios_whole (OpensGroup name) h = absurd h
  ios_whole (HasMember group member) h = absurd h

  asa_whole : (f : Fact) → IsAsaFact ports_at above f → Whole (asa_fact_text f)
  asa_whole (Remark text) h = both (codes "!") text (literal (codes "!") refl) h
  asa_whole (Sends port net gateway) h =
      spaced (codes "route " ++ port.hardware ++ codes " " ++ network_text net) (dotted gateway)
      (spaced (codes "route " ++ port.hardware) (network_text net)
      (both (codes "route ") port.hardware (literal (codes "route ") refl) (word port.hardware (named_for ports_at gateway port named h.port_good))) (network net h.net_good))
      (address gateway h.gateway_good)
  asa_whole (OpensGroup name) h = both (codes "object-group network ") name (literal (codes "object-group network ") refl) (word name h.0)
  asa_whole (HasMember group member) h = both (codes " network-object ") (addresses_text member) (literal (codes " network-object ") refl) (addresses member h.1)
  asa_whole (HasEntry list e) h =
      both (codes "access-list " ++ list ++ codes " extended ") (entry_text Asa e)
      (both (codes "access-list " ++ list) (codes " extended ") (both (codes "access-list ") list (literal (codes "access-list ") refl) (word list h.0)) (literal (codes " extended ") refl))
      (entry Asa above e h.1)
  asa_whole (Binds hardware list) h =
      both (codes "access-group " ++ list ++ codes " in interface ") hardware
      (both (codes "access-group " ++ list) (codes " in interface ") (both (codes "access-group ") list (literal (codes "access-group ") refl) (word list h.2)) (literal (codes " in interface ") refl))
      (word hardware (named_by ports_at hardware named h.0))
  asa_whole (OpensList name) h = absurd h
  asa_whole (OpensPort hardware) h = absurd h

  pub fact_whole : (dialect : Dialect) (f : Fact) → IsFact dialect ports_at above f → Lacks 10 (fact_text dialect f)
  fact_whole Ios f h = ios_whole f h
  fact_whole Asa f h = asa_whole f h
