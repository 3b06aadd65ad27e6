-- All words of a declaration, and where they stand in the text.
use Rattle.std.specs.Prelude.{◌≡◌, ◌≤◌, ◌-◌, ℕ, List, [], ◌∷◌, ◌++◌, length, take, drop, flat_map, Option, Some, None}
use Rattle.spoc_ast.specs.Written.{Lexeme, PortText, SetText, NoParts, NetworkNamed, HostNamed, PortNamed, GroupNamed, AggregateNamed, AreaNamed, UserNamed, NetworksIn, HostsIn, ZonesIn, Joining, Keeping, Leaving, IdleText, HostPartText, HostIp, HostRange, HostIdle, NatPartText, NatIp, NatHidden, NetPartText, NetIp, NetHost, NetNat, NetIdle, VirtPartText, VirtIp, VirtKind, VirtId, IfPartText, IfIp, IfHardware, IfBindNat, IfVirtual, IfIdle, RoutPartText, RoutManaged, RoutModel, RoutRouting, RoutIface, RoutIdle, AreaPartText, AreaAnchor, AreaBorder, AreaIdle, AnyPartText, AnyLink, AnyIp, AnyIdle, SimpleText, SimpleIp, SimpleTcp, SimpleUdp, SimpleIcmp, SimpleProto, PrtText, PrtSimple, PrtProtocol, PrtGroup, RuleText, DeclText, NetworkDecl, RouterDecl, GroupDecl, AreaDecl, AggregateDecl, ProtocolDecl, ProtocolGroupDecl, RestrictionDecl, ServiceDecl}

-- The word is the part of the text of that file that its place says.
pub record IsSlice (file : ℕ) (text : List ℕ) (word : Lexeme) : Type 0 where
  pub source : word.span.file ≡ file
  pub order : word.span.start ≤ word.span.«end»
  pub within : word.span.«end» ≤ length text
  pub bytes : take (word.span.«end» - word.span.start) (drop word.span.start text) ≡ word.text

abbrev pub perhaps_in : {A : Type 0} → (A → List Lexeme) → Option A → List Lexeme
perhaps_in words None = []
perhaps_in words (Some x) = words x

abbrev pub word_in : Lexeme → List Lexeme
word_in word = word ∷ []

abbrev pub port_words : PortText → List Lexeme
port_words port = port.router ∷ port.net ∷ []

abbrev pub set_words : SetText → List Lexeme
set_words NoParts = []
set_words (NetworkNamed name) = name ∷ []
set_words (HostNamed name) = name ∷ []
set_words (PortNamed port) = port_words port
set_words (GroupNamed name) = name ∷ []
set_words (AggregateNamed name) = name ∷ []
set_words (AreaNamed name) = name ∷ []
set_words UserNamed = []
set_words (NetworksIn e) = set_words e
set_words (HostsIn e) = set_words e
set_words (ZonesIn only e) = perhaps_in word_in only ++ set_words e
set_words (Joining e f) = set_words e ++ set_words f
set_words (Keeping e f) = set_words e ++ set_words f
set_words (Leaving e f) = set_words e ++ set_words f

abbrev pub idle_words : IdleText → List Lexeme
idle_words idle = idle.key ∷ idle.values

abbrev pub host_words : HostPartText → List Lexeme
host_words (HostIp address) = address ∷ []
host_words (HostRange words) = words
host_words (HostIdle idle) = idle_words idle

abbrev pub nat_words : NatPartText → List Lexeme
nat_words (NatIp prefix) = prefix ∷ []
nat_words NatHidden = []

abbrev pub net_words : NetPartText → List Lexeme
net_words (NetIp prefix) = prefix ∷ []
net_words (NetHost name parts) = name ∷ flat_map host_words parts
net_words (NetNat name parts) = name ∷ flat_map nat_words parts
net_words (NetIdle idle) = idle_words idle

abbrev pub virt_words : VirtPartText → List Lexeme
virt_words (VirtIp address) = address ∷ []
virt_words (VirtKind kind) = kind ∷ []
virt_words (VirtId number) = number ∷ []

abbrev pub iface_words : IfPartText → List Lexeme
iface_words (IfIp address) = address ∷ []
iface_words (IfHardware hardware) = hardware ∷ []
iface_words (IfBindNat tags) = tags
iface_words (IfVirtual parts) = flat_map virt_words parts
iface_words (IfIdle idle) = idle_words idle

abbrev pub router_words : RoutPartText → List Lexeme
router_words (RoutManaged filter) = perhaps_in word_in filter
router_words (RoutModel model) = model ∷ []
router_words (RoutRouting routing) = routing ∷ []
router_words (RoutIface name parts) = name ∷ flat_map iface_words parts
router_words (RoutIdle idle) = idle_words idle

abbrev pub area_words : AreaPartText → List Lexeme
area_words (AreaAnchor name) = name ∷ []
area_words (AreaBorder ports) = flat_map port_words ports
area_words (AreaIdle idle) = idle_words idle

abbrev pub any_words : AnyPartText → List Lexeme
any_words (AnyLink name) = name ∷ []
any_words (AnyIp prefix) = prefix ∷ []
any_words (AnyIdle idle) = idle_words idle

abbrev pub simple_words : SimpleText → List Lexeme
simple_words SimpleIp = []
simple_words (SimpleTcp words) = words
simple_words (SimpleUdp words) = words
simple_words (SimpleIcmp words) = words
simple_words (SimpleProto number) = number ∷ []

abbrev pub prt_words : PrtText → List Lexeme
prt_words (PrtSimple protocol) = simple_words protocol
prt_words (PrtProtocol name) = name ∷ []
prt_words (PrtGroup name) = name ∷ []

abbrev pub rule_words : RuleText → List Lexeme
rule_words rule = set_words rule.src ++ (set_words rule.dst ++ flat_map prt_words rule.prts)

-- a name, a description where there is one, and other words
abbrev pub headed : Lexeme → Option Lexeme → List Lexeme → List Lexeme
headed name desc words = name ∷ (perhaps_in word_in desc ++ words)

-- All words that a declaration keeps, in the order in which they stand: names that it declares and uses, hardware, addresses and numbers, descriptions, and parts without effect.
abbrev pub words_in : DeclText → List Lexeme
words_in (NetworkDecl name desc parts) = headed name desc (flat_map net_words parts)
words_in (RouterDecl name desc parts) = headed name desc (flat_map router_words parts)
words_in (GroupDecl name desc objects) = headed name desc (perhaps_in set_words objects)
words_in (AreaDecl name desc parts) = headed name desc (flat_map area_words parts)
words_in (AggregateDecl name desc parts) = headed name desc (flat_map any_words parts)
words_in (ProtocolDecl name protocol notes) = name ∷ (simple_words protocol ++ notes)
words_in (ProtocolGroupDecl name prts) = name ∷ flat_map prt_words prts
words_in (RestrictionDecl name desc ports) = headed name desc (flat_map port_words ports)
words_in (ServiceDecl name desc idle user rules) = headed name desc (flat_map idle_words idle ++ (set_words user ++ flat_map rule_words rules))
