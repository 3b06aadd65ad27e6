-- The trees in memory, as what they say.
use Rattle.std.specs.Prelude.{Bool, true, false, List, [], ◌∷◌, map, option_map}
use Rattle.spoc_ast.specs.Written.{Lexeme, PortText, SetText, NoParts, NetworkNamed, HostNamed, PortNamed, GroupNamed, AggregateNamed, AreaNamed, UserNamed, NetworksIn, HostsIn, ZonesIn, Joining, Keeping, Leaving, IdleText, HostPartText, HostIp, HostRange, HostIdle, NatPartText, NatIp, NatHidden, NetPartText, NetIp, NetHost, NetNat, NetIdle, VirtPartText, VirtIp, VirtKind, VirtId, IfPartText, IfIp, IfHardware, IfBindNat, IfVirtual, IfIdle, RoutPartText, RoutManaged, RoutModel, RoutRouting, RoutIface, RoutIdle, AreaPartText, AreaAnchor, AreaBorder, AreaIdle, AnyPartText, AnyLink, AnyIp, AnyIdle, SimpleText, SimpleIp, SimpleTcp, SimpleUdp, SimpleIcmp, SimpleProto, PrtText, PrtSimple, PrtProtocol, PrtGroup, RuleText, DeclText, NetworkDecl, RouterDecl, GroupDecl, AreaDecl, AggregateDecl, ProtocolDecl, ProtocolGroupDecl, RestrictionDecl, ServiceDecl}
use Rattle.spoc_ast.specs.declared.word.Word.{Word}
use Rattle.spoc_ast.specs.declared.word.PortName.{PortName}
use Rattle.spoc_ast.specs.declared.set.SetTree.{SetTree, SetTree', Row_of-InterTree, end_of-InterTree, more_of-InterTree}
use Rattle.spoc_ast.specs.declared.set.InterTree.{InterTree, InterTree', Row_of-FurtherTree, end_of-FurtherTree, more_of-FurtherTree}
use Rattle.spoc_ast.specs.declared.set.FurtherTree.{FurtherTree}
use Rattle.spoc_ast.specs.declared.set.TermTree.{TermTree}
use Rattle.spoc_ast.specs.declared.set.TermTree.TheVariants as term
use Rattle.spoc_ast.specs.declared.decl.Idle.{Idle}
use Rattle.spoc_ast.specs.declared.decl.HostPart.{HostPart}
use Rattle.spoc_ast.specs.declared.decl.HostPart.TheVariants as host_part
use Rattle.spoc_ast.specs.declared.decl.NatPart.{NatPart}
use Rattle.spoc_ast.specs.declared.decl.NatPart.TheVariants as nat_part
use Rattle.spoc_ast.specs.declared.decl.NetPart.{NetPart}
use Rattle.spoc_ast.specs.declared.decl.NetPart.TheVariants as net_part
use Rattle.spoc_ast.specs.declared.decl.VirtPart.{VirtPart}
use Rattle.spoc_ast.specs.declared.decl.VirtPart.TheVariants as virt_part
use Rattle.spoc_ast.specs.declared.decl.IfPart.{IfPart}
use Rattle.spoc_ast.specs.declared.decl.IfPart.TheVariants as if_part
use Rattle.spoc_ast.specs.declared.decl.RoutPart.{RoutPart}
use Rattle.spoc_ast.specs.declared.decl.RoutPart.TheVariants as rout_part
use Rattle.spoc_ast.specs.declared.decl.AreaPart.{AreaPart}
use Rattle.spoc_ast.specs.declared.decl.AreaPart.TheVariants as area_part
use Rattle.spoc_ast.specs.declared.decl.AnyPart.{AnyPart}
use Rattle.spoc_ast.specs.declared.decl.AnyPart.TheVariants as any_part
use Rattle.spoc_ast.specs.declared.decl.Simple.{Simple}
use Rattle.spoc_ast.specs.declared.decl.Simple.TheVariants as simple
use Rattle.spoc_ast.specs.declared.decl.Prt.{Prt}
use Rattle.spoc_ast.specs.declared.decl.Prt.TheVariants as prt
use Rattle.spoc_ast.specs.declared.decl.RuleTree.{RuleTree}
use Rattle.spoc_ast.specs.declared.decl.Decl.{Decl}
use Rattle.spoc_ast.specs.declared.decl.Decl.TheVariants as decl
use Rattle.spoc_ast.specs.declared.decl.File.{File}

abbrev pub word_seen : Word → Lexeme
word_seen word = record { span = word.span; text = word.text.now }

abbrev pub port_seen : PortName → PortText
port_seen port = record { router = word_seen port.router; net = word_seen port.net }

-- what the first set keeps of the second, or without it
abbrev pub narrowing : Bool → SetText → SetText → SetText
narrowing true e f = Leaving e f
narrowing false e f = Keeping e f

abbrev mutual
  -- the parts of a set joined, from the last one on
  pub set_seen : SetTree → SetText
  set_seen (SetTree' p shape inters) = joined_row inters

  pub joined_row : {n : _} → Row_of-InterTree n → SetText
  joined_row end_of-InterTree = NoParts
  joined_row (more_of-InterTree inter inters) = Joining (inter_seen inter) (joined_row inters)

  -- a part: its first term, narrowed by each further term in turn
  pub inter_seen : InterTree → SetText
  inter_seen (InterTree' first p shape rest) = narrowed_row (term_seen first) rest

  pub narrowed_row : {n : _} → SetText → Row_of-FurtherTree n → SetText
  narrowed_row e end_of-FurtherTree = e
  narrowed_row e (more_of-FurtherTree without term rest) = narrowed_row (narrowing without e (term_seen term)) rest

  pub term_seen : TermTree → SetText
  term_seen (term.Network w) = NetworkNamed (word_seen w)
  term_seen (term.Host w) = HostNamed (word_seen w)
  term_seen (term.Port port) = PortNamed (port_seen port)
  term_seen (term.Group w) = GroupNamed (word_seen w)
  term_seen (term.Aggregate w) = AggregateNamed (word_seen w)
  term_seen (term.Area w) = AreaNamed (word_seen w)
  term_seen term.User = UserNamed
  term_seen (term.Nets set) = NetworksIn (set_seen set)
  term_seen (term.Hosts set) = HostsIn (set_seen set)
  term_seen (term.Anys only set) = ZonesIn (option_map word_seen only) (set_seen set)

abbrev pub idle_seen : Idle → IdleText
idle_seen idle = record { key = word_seen idle.key; values = map word_seen idle.values.now }

abbrev pub host_part_seen : HostPart → HostPartText
host_part_seen (host_part.Ip w) = HostIp (word_seen w)
host_part_seen (host_part.Range words) = HostRange (map word_seen words.now)
host_part_seen (host_part.Idle idle) = HostIdle (idle_seen idle)

abbrev pub nat_part_seen : NatPart → NatPartText
nat_part_seen (nat_part.Ip w) = NatIp (word_seen w)
nat_part_seen nat_part.Hidden = NatHidden

abbrev pub net_part_seen : NetPart → NetPartText
net_part_seen (net_part.Ip w) = NetIp (word_seen w)
net_part_seen (net_part.Host name parts) = NetHost (word_seen name) (map host_part_seen parts.now)
net_part_seen (net_part.Nat name parts) = NetNat (word_seen name) (map nat_part_seen parts.now)
net_part_seen (net_part.Idle idle) = NetIdle (idle_seen idle)

abbrev pub virt_part_seen : VirtPart → VirtPartText
virt_part_seen (virt_part.Ip w) = VirtIp (word_seen w)
virt_part_seen (virt_part.Kind w) = VirtKind (word_seen w)
virt_part_seen (virt_part.Id w) = VirtId (word_seen w)

abbrev pub if_part_seen : IfPart → IfPartText
if_part_seen (if_part.Ip w) = IfIp (word_seen w)
if_part_seen (if_part.Hardware w) = IfHardware (word_seen w)
if_part_seen (if_part.BindNat tags) = IfBindNat (map word_seen tags.now)
if_part_seen (if_part.Virtual parts) = IfVirtual (map virt_part_seen parts.now)
if_part_seen (if_part.Idle idle) = IfIdle (idle_seen idle)

abbrev pub rout_part_seen : RoutPart → RoutPartText
rout_part_seen (rout_part.Managed filter) = RoutManaged (option_map word_seen filter)
rout_part_seen (rout_part.Model w) = RoutModel (word_seen w)
rout_part_seen (rout_part.Routing w) = RoutRouting (word_seen w)
rout_part_seen (rout_part.Iface name parts) = RoutIface (word_seen name) (map if_part_seen parts.now)
rout_part_seen (rout_part.Idle idle) = RoutIdle (idle_seen idle)

abbrev pub area_part_seen : AreaPart → AreaPartText
area_part_seen (area_part.Anchor w) = AreaAnchor (word_seen w)
area_part_seen (area_part.Border ports) = AreaBorder (map port_seen ports.now)
area_part_seen (area_part.Idle idle) = AreaIdle (idle_seen idle)

abbrev pub any_part_seen : AnyPart → AnyPartText
any_part_seen (any_part.Link w) = AnyLink (word_seen w)
any_part_seen (any_part.Ip w) = AnyIp (word_seen w)
any_part_seen (any_part.Idle idle) = AnyIdle (idle_seen idle)

abbrev pub simple_seen : Simple → SimpleText
simple_seen simple.Ip = SimpleIp
simple_seen (simple.Tcp words) = SimpleTcp (map word_seen words.now)
simple_seen (simple.Udp words) = SimpleUdp (map word_seen words.now)
simple_seen (simple.Icmp words) = SimpleIcmp (map word_seen words.now)
simple_seen (simple.Proto w) = SimpleProto (word_seen w)

abbrev pub prt_seen : Prt → PrtText
prt_seen (prt.Simple s) = PrtSimple (simple_seen s)
prt_seen (prt.Protocol w) = PrtProtocol (word_seen w)
prt_seen (prt.Group w) = PrtGroup (word_seen w)

abbrev pub rule_seen : RuleTree → RuleText
rule_seen rule = record { deny = rule.deny; src = set_seen rule.src; dst = set_seen rule.dst; prts = map prt_seen rule.prts.now }

abbrev pub decl_seen : Decl → DeclText
decl_seen (decl.Network name desc parts) = NetworkDecl (word_seen name) (option_map word_seen desc) (map net_part_seen parts.now)
decl_seen (decl.Router name desc parts) = RouterDecl (word_seen name) (option_map word_seen desc) (map rout_part_seen parts.now)
decl_seen (decl.Group name desc objects) = GroupDecl (word_seen name) (option_map word_seen desc) (option_map set_seen objects)
decl_seen (decl.Area name desc parts) = AreaDecl (word_seen name) (option_map word_seen desc) (map area_part_seen parts.now)
decl_seen (decl.Aggregate name desc parts) = AggregateDecl (word_seen name) (option_map word_seen desc) (map any_part_seen parts.now)
decl_seen (decl.Protocol name s notes) = ProtocolDecl (word_seen name) (simple_seen s) (map word_seen notes.now)
decl_seen (decl.ProtocolGroup name prts) = ProtocolGroupDecl (word_seen name) (map prt_seen prts.now)
decl_seen (decl.Restriction name desc ports) = RestrictionDecl (word_seen name) (option_map word_seen desc) (map port_seen ports.now)
decl_seen (decl.Service name desc idle user rules) = ServiceDecl (word_seen name) (option_map word_seen desc) (map idle_seen idle.now) (set_seen user) (map rule_seen rules.now)

-- the declarations of a file
abbrev pub file_seen : File → List DeclText
file_seen file = map decl_seen file.decls.now

-- parts joined, from the last one on
abbrev pub joined : List SetText → SetText
joined [] = NoParts
joined (e ∷ es) = Joining e (joined es)

-- a set narrowed by further terms, each in turn
abbrev pub narrowed : SetText → List FurtherTree → SetText
narrowed e [] = e
narrowed e (f ∷ fs) = narrowed (narrowing f.without e (term_seen f.term)) fs
