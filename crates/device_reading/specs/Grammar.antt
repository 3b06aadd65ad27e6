-- Which lines may stand below which.
use Rattle.std.specs.Prelude.{◌≡◌, ◌≢◌, ℕ, ◌≤◌, ◌<◌, ◌^◌, Bool, true, false, ◌||◌, ◌&&◌, ◌==◌, nat_le, bytes_eq, List, [], ◌∷◌, ◌++◌, filter, flat_map, Option, Some, None, if◌then◌else◌}
use Rattle.std.specs.List.{AllByRecursion, list_any, last_or}
use Rattle.spoc_base.specs.Address.{Cidr, IsCidr, prefix_holds}
use Rattle.spoc_base.specs.Boxes.{TransportBox, AnyTransport, TcpPorts, UdpPorts, IcmpTypes, ProtocolNumber, IsOtherProtocol}
use Rattle.spoc_base.specs.PlainSets.{IsPorts, IsByteAsked}
use Rattle.spoc_base.specs.Spelling.{is_word_byte}
use Rattle.spoc_base.specs.declared.dialect.Dialect.{Dialect}
use Rattle.spoc_base.specs.declared.dialect.Dialect.TheVariants.{Ios, Asa}
use Rattle.policy_model.specs.Places.{longest_by}
use Rattle.device_reading.specs.Facts.{PortAt, End, OnePrefix, NamedGroup, Entry, Fact, Remark, Sends, OpensList, HasEntry, OpensPort, Binds, OpensGroup, HasMember}

-- ---- words and numbers

-- the byte stands nowhere in the text
abbrev pub Lacks : ℕ → List ℕ → Type 0
Lacks byte text = AllByRecursion (λ b. (b == byte) ≡ false) text

-- letters, digits and `_ . : / -`, one or more
pub record IsWord (name : List ℕ) : Type 0 where
  pub some : name ≢ []
  pub bytes : AllByRecursion (λ b. is_word_byte b ≡ true) name

-- no host bit is set, and the address has 32 bits
pub record IsPrefix (p : Cidr) : Type 0 where
  pub good : IsCidr p
  pub low : p.net < 2 ^ 32

-- on IOS a TCP entry may have the mark of established segments; a code has a type before it
abbrev pub IsEntryBox : Dialect → TransportBox → Type 0
IsEntryBox dialect AnyTransport = Unit {0}
IsEntryBox Ios (TcpPorts src dst established) = IsPorts src × IsPorts dst
IsEntryBox Asa (TcpPorts src dst established) = IsPorts src × IsPorts dst × (established ≡ false)
IsEntryBox dialect (UdpPorts src dst) = IsPorts src × IsPorts dst
IsEntryBox dialect (IcmpTypes None code) = code ≡ None
IsEntryBox dialect (IcmpTypes (Some kind) code) = (kind < 256) × IsByteAsked code
IsEntryBox dialect (ProtocolNumber number) = IsOtherProtocol number

-- ---- what the lines above say

-- the line begins with neither a space nor `!`
abbrev pub is_heading : Dialect → Fact → Bool
is_heading dialect (Remark text) = false
is_heading Ios (HasEntry list entry) = false
is_heading Ios (Binds hardware list) = false
is_heading dialect (HasMember group member) = false
is_heading dialect _ = true

-- the line that an indented line belongs to
abbrev pub owner : Dialect → List Fact → Option Fact
owner dialect above = last_or None (filter (is_heading dialect) above)

abbrev pub opens_list : List ℕ → Fact → Bool
opens_list name (OpensList n) = bytes_eq n name
opens_list name _ = false

abbrev pub opens_port : List ℕ → Fact → Bool
opens_port hardware (OpensPort h) = bytes_eq h hardware
opens_port hardware _ = false

abbrev pub opens_group : List ℕ → Fact → Bool
opens_group name (OpensGroup n) = bytes_eq n name
opens_group name _ = false

abbrev pub has_entry : List ℕ → Fact → Bool
has_entry name (HasEntry n entry) = bytes_eq n name
has_entry name _ = false

abbrev pub binds_port : List ℕ → Fact → Bool
binds_port hardware (Binds h list) = bytes_eq h hardware
binds_port hardware _ = false

abbrev pub member_in : List ℕ → Fact → List Cidr
member_in name (HasMember group member) = if bytes_eq group name then member ∷ [] else []
member_in name _ = []

-- the members of a group, in order
abbrev pub members_of : List ℕ → List Fact → List Cidr
members_of name above = flat_map (member_in name) above

-- the port with the longest prefix that holds the address, the first of equally long ones
abbrev pub port_for : List PortAt → ℕ → Option PortAt
port_for ports a = longest_by (λ p. p.connected.len) (filter (λ p. prefix_holds p.connected a) ports)

abbrev pub has_hardware : List ℕ → PortAt → Bool
has_hardware hardware p = bytes_eq p.hardware hardware

-- ---- the lines

abbrev pub IsEnd : Dialect → List Fact → End → Type 0
IsEnd dialect above (OnePrefix p) = IsPrefix p
IsEnd Ios above (NamedGroup name members) = ⊥
IsEnd Asa above (NamedGroup name members) = IsWord name × (members ≡ members_of name above) × (members ≢ [])

pub record IsEntry (dialect : Dialect) (above : List Fact) (e : Entry) : Type 0 where
  pub src : IsEnd dialect above e.src
  pub dst : IsEnd dialect above e.dst
  pub box : IsEntryBox dialect e.box

-- the network has no host bit, and the port is the one that holds the gateway
pub record IsRoute (ports : List PortAt) (port : PortAt) (net : Cidr) (gateway : ℕ) : Type 0 where
  pub net_good : IsPrefix net
  pub gateway_good : gateway < 2 ^ 32
  pub port_good : port_for ports gateway ≡ Some port

-- what a line of an IOS file may say below these lines
abbrev pub IsIosFact : List PortAt → List Fact → Fact → Type 0
IsIosFact ports above (Remark text) = Lacks 10 text
IsIosFact ports above (Sends port net gateway) = IsRoute ports port net gateway
IsIosFact ports above (OpensList name) = IsWord name × (list_any (opens_list name) above ≡ false)
IsIosFact ports above (HasEntry list entry) = (owner Ios above ≡ Some (OpensList list)) × IsEntry Ios above entry
IsIosFact ports above (OpensPort hardware) = (list_any (has_hardware hardware) ports ≡ true) × (list_any (opens_port hardware) above ≡ false)
IsIosFact ports above (Binds hardware list) =
    (owner Ios above ≡ Some (OpensPort hardware)) × (list_any (binds_port hardware) above ≡ false) × IsWord list × (list_any (opens_list list) above ≡ true)
IsIosFact ports above (OpensGroup name) = ⊥
IsIosFact ports above (HasMember group member) = ⊥

-- what a line of an ASA file may say below these lines
abbrev pub IsAsaFact : List PortAt → List Fact → Fact → Type 0
IsAsaFact ports above (Remark text) = Lacks 10 text
IsAsaFact ports above (Sends port net gateway) = IsRoute ports port net gateway
IsAsaFact ports above (OpensGroup name) = IsWord name × (list_any (opens_group name) above ≡ false)
IsAsaFact ports above (HasMember group member) = (owner Asa above ≡ Some (OpensGroup group)) × IsPrefix member
IsAsaFact ports above (HasEntry list entry) = IsWord list × IsEntry Asa above entry
IsAsaFact ports above (Binds hardware list) =
    (list_any (has_hardware hardware) ports ≡ true) × (list_any (binds_port hardware) above ≡ false) × IsWord list × (list_any (has_entry list) above ≡ true)
IsAsaFact ports above (OpensList name) = ⊥
IsAsaFact ports above (OpensPort hardware) = ⊥

abbrev pub IsFact : Dialect → List PortAt → List Fact → Fact → Type 0
IsFact Ios ports above fact = IsIosFact ports above fact
IsFact Asa ports above fact = IsAsaFact ports above fact

-- each of the lines may stand below those above it, where the first lines stand above all of them
abbrev pub AreFacts : Dialect → List PortAt → List Fact → List Fact → Type 0
AreFacts dialect ports above [] = Unit {0}
AreFacts dialect ports above (fact ∷ facts) = IsFact dialect ports above fact × AreFacts dialect ports (above ++ fact ∷ []) facts
