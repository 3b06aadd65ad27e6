-- What the declarations of the grammar say.
use Rattle.std.specs.Prelude.{ℕ, zero, suc, ◌+◌, Bool, List, [], ◌∷◌, length, map, option_map}
use Rattle.spoc_parser.specs.Trees.{PortItem, IdleItem, TermOf, network, host, port, group, aggregate, area, user, nets, hosts, anys, InterOf, SetOf, SetIn, HostItem, host_ip, host_range, host_idle, NatItem, nat_ip, nat_hidden, NetItem, net_ip, net_host, net_nat, net_idle, VirtItem, virt_ip, virt_kind, virt_id, IfaceItem, iface_ip, iface_hardware, iface_bind_nat, iface_virtual, iface_idle, RouterItem, router_managed, router_model, router_routing, router_iface, router_idle, AreaItem, area_anchor, area_border, area_idle, AnyItem, any_link, any_ip, any_idle, Proto, proto_ip, proto_tcp, proto_udp, proto_icmp, proto_number, ProtoItem, one_proto, a_protocol, a_protogroup, RuleOf, DeclOf, network_decl, router_decl, group_decl, area_decl, aggregate_decl, protocol_decl, protogroup_decl, restriction_decl, service_decl, DeclIn}
use Rattle.spoc_parser.specs.Trees as trees
use Rattle.spoc_ast.specs.Written.{Lexeme, PortText, SetText, NetworkNamed, HostNamed, PortNamed, GroupNamed, AggregateNamed, AreaNamed, UserNamed, NetworksIn, HostsIn, ZonesIn, IdleText, HostPartText, HostIp, HostRange, HostIdle, NatPartText, NatIp, NatHidden, NetPartText, NetIp, NetHost, NetNat, NetIdle, VirtPartText, VirtIp, VirtKind, VirtId, IfPartText, IfIp, IfHardware, IfBindNat, IfVirtual, IfIdle, RoutPartText, RoutManaged, RoutModel, RoutRouting, RoutIface, RoutIdle, AreaPartText, AreaAnchor, AreaBorder, AreaIdle, AnyPartText, AnyLink, AnyIp, AnyIdle, SimpleText, SimpleIp, SimpleTcp, SimpleUdp, SimpleIcmp, SimpleProto, PrtText, PrtSimple, PrtProtocol, PrtGroup, RuleText, DeclText, NetworkDecl, RouterDecl, GroupDecl, AreaDecl, AggregateDecl, ProtocolDecl, ProtocolGroupDecl, RestrictionDecl, ServiceDecl}
use Rattle.spoc_ast.specs.Seen.{narrowing, joined}

-- a word of a file: its place is as long as its bytes
abbrev pub lexeme_said : ℕ → trees.Lexeme → Lexeme
lexeme_said file word = record { span = record { file = file; start = word.start; «end» = word.start + length word.text }; text = word.text }

abbrev pub lexemes_said : ℕ → List trees.Lexeme → List Lexeme
lexemes_said file words = map (lexeme_said file) words

abbrev pub port_said : ℕ → PortItem → PortText
port_said file place = record { router = lexeme_said file place.router; net = lexeme_said file place.net }

-- a term, where a set inside brackets says so
abbrev pub term_said : {S : Type 0} → ℕ → (S → SetText) → TermOf S → SetText
term_said file says (network name) = NetworkNamed (lexeme_said file name)
term_said file says (host name) = HostNamed (lexeme_said file name)
term_said file says (port place) = PortNamed (port_said file place)
term_said file says (group name) = GroupNamed (lexeme_said file name)
term_said file says (aggregate name) = AggregateNamed (lexeme_said file name)
term_said file says (area name) = AreaNamed (lexeme_said file name)
term_said file says user = UserNamed
term_said file says (nets set) = NetworksIn (says set)
term_said file says (hosts set) = HostsIn (says set)
term_said file says (anys inside set) = ZonesIn (option_map (lexeme_said file) inside) (says set)

-- what is said so far, narrowed by each further term in turn
abbrev pub further_said : {T : Type 0} → (T → SetText) → SetText → List (Bool × T) → SetText
further_said says e [] = e
further_said says e (f ∷ fs) = further_said says (narrowing f.0 e (says f.1)) fs

abbrev pub inter_said : {T : Type 0} → (T → SetText) → InterOf T → SetText
inter_said says i = further_said says (says i.0) i.1

abbrev pub parts_said : {T : Type 0} → (T → SetText) → SetOf T → SetText
parts_said says set = joined (map (inter_said says) set)

abbrev pub none_said : ⊥ → SetText
none_said none = absurd none

-- a set of so many levels at most
abbrev pub set_said : ℕ → (depth : ℕ) → SetIn depth → SetText
set_said file zero = none_said
set_said file (suc depth) = parts_said (term_said file (set_said file depth))

abbrev pub idle_said : ℕ → IdleItem → IdleText
idle_said file idle = record { key = lexeme_said file idle.key; values = lexemes_said file idle.values }

abbrev pub host_item_said : ℕ → HostItem → HostPartText
host_item_said file (host_ip address) = HostIp (lexeme_said file address)
host_item_said file (host_range words) = HostRange (lexemes_said file words)
host_item_said file (host_idle idle) = HostIdle (idle_said file idle)

abbrev pub nat_item_said : ℕ → NatItem → NatPartText
nat_item_said file (nat_ip prefix) = NatIp (lexeme_said file prefix)
nat_item_said file nat_hidden = NatHidden

abbrev pub net_item_said : ℕ → NetItem → NetPartText
net_item_said file (net_ip prefix) = NetIp (lexeme_said file prefix)
net_item_said file (net_host name parts) = NetHost (lexeme_said file name) (map (host_item_said file) parts)
net_item_said file (net_nat tag parts) = NetNat (lexeme_said file tag) (map (nat_item_said file) parts)
net_item_said file (net_idle idle) = NetIdle (idle_said file idle)

abbrev pub virt_item_said : ℕ → VirtItem → VirtPartText
virt_item_said file (virt_ip address) = VirtIp (lexeme_said file address)
virt_item_said file (virt_kind word) = VirtKind (lexeme_said file word)
virt_item_said file (virt_id number) = VirtId (lexeme_said file number)

abbrev pub iface_item_said : ℕ → IfaceItem → IfPartText
iface_item_said file (iface_ip address) = IfIp (lexeme_said file address)
iface_item_said file (iface_hardware word) = IfHardware (lexeme_said file word)
iface_item_said file (iface_bind_nat tags) = IfBindNat (lexemes_said file tags)
iface_item_said file (iface_virtual parts) = IfVirtual (map (virt_item_said file) parts)
iface_item_said file (iface_idle idle) = IfIdle (idle_said file idle)

abbrev pub router_item_said : ℕ → RouterItem → RoutPartText
router_item_said file (router_managed filter) = RoutManaged (option_map (lexeme_said file) filter)
router_item_said file (router_model word) = RoutModel (lexeme_said file word)
router_item_said file (router_routing word) = RoutRouting (lexeme_said file word)
router_item_said file (router_iface net parts) = RoutIface (lexeme_said file net) (map (iface_item_said file) parts)
router_item_said file (router_idle idle) = RoutIdle (idle_said file idle)

abbrev pub area_item_said : ℕ → AreaItem → AreaPartText
area_item_said file (area_anchor net) = AreaAnchor (lexeme_said file net)
area_item_said file (area_border ports) = AreaBorder (map (port_said file) ports)
area_item_said file (area_idle idle) = AreaIdle (idle_said file idle)

abbrev pub any_item_said : ℕ → AnyItem → AnyPartText
any_item_said file (any_link net) = AnyLink (lexeme_said file net)
any_item_said file (any_ip prefix) = AnyIp (lexeme_said file prefix)
any_item_said file (any_idle idle) = AnyIdle (idle_said file idle)

abbrev pub proto_said : ℕ → Proto → SimpleText
proto_said file proto_ip = SimpleIp
proto_said file (proto_tcp ports) = SimpleTcp (lexemes_said file ports)
proto_said file (proto_udp ports) = SimpleUdp (lexemes_said file ports)
proto_said file (proto_icmp kind) = SimpleIcmp (lexemes_said file kind)
proto_said file (proto_number number) = SimpleProto (lexeme_said file number)

abbrev pub proto_item_said : ℕ → ProtoItem → PrtText
proto_item_said file (one_proto proto) = PrtSimple (proto_said file proto)
proto_item_said file (a_protocol name) = PrtProtocol (lexeme_said file name)
proto_item_said file (a_protogroup name) = PrtGroup (lexeme_said file name)

-- a rule, where a set says so
abbrev pub rule_said : {S : Type 0} → ℕ → (S → SetText) → RuleOf S → RuleText
rule_said file says rule = record { deny = rule.deny; src = says rule.src; dst = says rule.dst; prts = map (proto_item_said file) rule.prts }

-- a declaration, where a set says so
abbrev pub decl_of_said : {S : Type 0} → ℕ → (S → SetText) → DeclOf S → DeclText
decl_of_said file says (network_decl name desc parts) = NetworkDecl (lexeme_said file name) (option_map (lexeme_said file) desc) (map (net_item_said file) parts)
decl_of_said file says (router_decl name desc parts) = RouterDecl (lexeme_said file name) (option_map (lexeme_said file) desc) (map (router_item_said file) parts)
decl_of_said file says (group_decl name desc objects) = GroupDecl (lexeme_said file name) (option_map (lexeme_said file) desc) (option_map says objects)
decl_of_said file says (area_decl name desc parts) = AreaDecl (lexeme_said file name) (option_map (lexeme_said file) desc) (map (area_item_said file) parts)
decl_of_said file says (aggregate_decl name desc parts) = AggregateDecl (lexeme_said file name) (option_map (lexeme_said file) desc) (map (any_item_said file) parts)
decl_of_said file says (protocol_decl name proto notes) = ProtocolDecl (lexeme_said file name) (proto_said file proto) (lexemes_said file notes)
decl_of_said file says (protogroup_decl name prts) = ProtocolGroupDecl (lexeme_said file name) (map (proto_item_said file) prts)
decl_of_said file says (restriction_decl name desc ports) = RestrictionDecl (lexeme_said file name) (option_map (lexeme_said file) desc) (map (port_said file) ports)
decl_of_said file says (service_decl name desc idle users rules) = ServiceDecl (lexeme_said file name) (option_map (lexeme_said file) desc) (map (idle_said file) idle) (says users) (map (rule_said file says) rules)

-- a declaration of the file of that number
abbrev pub decl_said : ℕ → (depth : ℕ) → DeclIn depth → DeclText
decl_said file depth = decl_of_said file (set_said file depth)

-- the declarations of the file of that number
abbrev pub decls_said : ℕ → (depth : ℕ) → List (DeclIn depth) → List DeclText
decls_said file depth decls = map (decl_said file depth) decls
