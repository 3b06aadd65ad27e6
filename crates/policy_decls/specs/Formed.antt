-- What the grammar secures of each declaration, besides its tree.
use Rattle.std.specs.Prelude.{Bool, true, false, not, ◌&&◌, List, Option, Some, None, is_some}
use Rattle.std.specs.List.{list_all}
use Rattle.policy_model.specs.Lists.{is_nothing}
use Rattle.spoc_ast.specs.Written.{Lexeme, SetText, NoParts, NetworkNamed, HostNamed, PortNamed, GroupNamed, AggregateNamed, AreaNamed, UserNamed, NetworksIn, HostsIn, ZonesIn, Joining, Keeping, Leaving, HostPartText, HostIp, HostRange, HostIdle, NatPartText, NatIp, NatHidden, NetPartText, NetIp, NetHost, NetNat, NetIdle, VirtPartText, VirtIp, VirtKind, VirtId, IfPartText, IfIp, IfHardware, IfBindNat, IfVirtual, IfIdle, RoutPartText, RoutManaged, RoutModel, RoutRouting, RoutIface, RoutIdle, AreaPartText, AreaAnchor, AreaBorder, AreaIdle, AnyPartText, AnyLink, AnyIp, AnyIdle, SimpleText, SimpleIp, SimpleTcp, SimpleUdp, SimpleIcmp, SimpleProto, PrtText, PrtSimple, PrtProtocol, PrtGroup, RuleText, DeclText, NetworkDecl, RouterDecl, GroupDecl, AreaDecl, AggregateDecl, ProtocolDecl, ProtocolGroupDecl, RestrictionDecl, ServiceDecl}
use Rattle.policy_decls.specs.Numbers.{address_of, prefix_of, range_of, port_pair_of, icmp_of, number_of, spread}

-- the word is a prefix
abbrev pub says_prefix : Lexeme → Bool
says_prefix w = is_some (prefix_of w.text)

-- the word is an address
abbrev pub says_address : Lexeme → Bool
says_address w = is_some (address_of w.text)

abbrev pub asks_prefix : Option Lexeme → Bool
asks_prefix None = true
asks_prefix (Some w) = says_prefix w

-- The user stands in rules alone, areas inside brackets alone, and what is asked for is a prefix.
abbrev pub is_formed_set : (user bracket : Bool) → SetText → Bool
is_formed_set user bracket NoParts = true
is_formed_set user bracket (NetworkNamed name) = true
is_formed_set user bracket (HostNamed name) = true
is_formed_set user bracket (PortNamed port) = true
is_formed_set user bracket (GroupNamed name) = true
is_formed_set user bracket (AggregateNamed name) = true
is_formed_set user bracket (AreaNamed name) = bracket
is_formed_set user bracket UserNamed = user
is_formed_set user bracket (NetworksIn e) = is_formed_set user true e
is_formed_set user bracket (HostsIn e) = is_formed_set user true e
is_formed_set user bracket (ZonesIn only e) = asks_prefix only && is_formed_set user true e
is_formed_set user bracket (Joining e f) = is_formed_set user bracket e && is_formed_set user bracket f
is_formed_set user bracket (Keeping e f) = is_formed_set user bracket e && is_formed_set user bracket f
is_formed_set user bracket (Leaving e f) = is_formed_set user bracket e && is_formed_set user bracket f

abbrev pub is_formed_host : HostPartText → Bool
is_formed_host (HostIp address) = says_address address
is_formed_host (HostRange words) = is_some (range_of (spread words))
is_formed_host (HostIdle idle) = true

abbrev pub is_formed_nat : NatPartText → Bool
is_formed_nat (NatIp prefix) = says_prefix prefix
is_formed_nat NatHidden = true

abbrev pub is_formed_net : NetPartText → Bool
is_formed_net (NetIp prefix) = says_prefix prefix
is_formed_net (NetHost name parts) = list_all is_formed_host parts
is_formed_net (NetNat name parts) = list_all is_formed_nat parts
is_formed_net (NetIdle idle) = true

abbrev pub is_formed_virtual : VirtPartText → Bool
is_formed_virtual (VirtIp address) = says_address address
is_formed_virtual (VirtKind kind) = true
is_formed_virtual (VirtId number) = is_some (number_of number.text)

abbrev pub is_formed_iface : IfPartText → Bool
is_formed_iface (IfIp address) = says_address address
is_formed_iface (IfHardware hardware) = not (is_nothing hardware.text)
is_formed_iface (IfBindNat tags) = true
is_formed_iface (IfVirtual parts) = list_all is_formed_virtual parts
is_formed_iface (IfIdle idle) = true

abbrev pub is_formed_router : RoutPartText → Bool
is_formed_router (RoutManaged filter) = true
is_formed_router (RoutModel model) = true
is_formed_router (RoutRouting routing) = true
is_formed_router (RoutIface name parts) = list_all is_formed_iface parts
is_formed_router (RoutIdle idle) = true

-- a border part names an interface at least
abbrev pub is_formed_area : AreaPartText → Bool
is_formed_area (AreaAnchor name) = true
is_formed_area (AreaBorder ports) = not (is_nothing ports)
is_formed_area (AreaIdle idle) = true

abbrev pub is_formed_any : AnyPartText → Bool
is_formed_any (AnyLink name) = true
is_formed_any (AnyIp prefix) = says_prefix prefix
is_formed_any (AnyIdle idle) = true

abbrev pub is_formed_simple : SimpleText → Bool
is_formed_simple SimpleIp = true
is_formed_simple (SimpleTcp words) = is_some (port_pair_of (spread words))
is_formed_simple (SimpleUdp words) = is_some (port_pair_of (spread words))
is_formed_simple (SimpleIcmp words) = is_some (icmp_of (spread words))
is_formed_simple (SimpleProto number) = is_some (number_of number.text)

abbrev pub is_formed_prt : PrtText → Bool
is_formed_prt (PrtSimple protocol) = is_formed_simple protocol
is_formed_prt (PrtProtocol name) = true
is_formed_prt (PrtGroup name) = true

abbrev pub is_formed_rule : RuleText → Bool
is_formed_rule rule = is_formed_set true false rule.src && is_formed_set true false rule.dst && list_all is_formed_prt rule.prts

abbrev pub is_formed_objects : Option SetText → Bool
is_formed_objects None = true
is_formed_objects (Some e) = is_formed_set false false e

-- Each word for an address, a prefix, a range, ports or a number is one; hardware isn't empty; a border part isn't empty; the user and areas stand where
-- they may.
abbrev pub is_formed : DeclText → Bool
is_formed (NetworkDecl name desc parts) = list_all is_formed_net parts
is_formed (RouterDecl name desc parts) = list_all is_formed_router parts
is_formed (GroupDecl name desc objects) = is_formed_objects objects
is_formed (AreaDecl name desc parts) = list_all is_formed_area parts
is_formed (AggregateDecl name desc parts) = list_all is_formed_any parts
is_formed (ProtocolDecl name protocol notes) = is_formed_simple protocol
is_formed (ProtocolGroupDecl name prts) = list_all is_formed_prt prts
is_formed (RestrictionDecl name desc ports) = true
is_formed (ServiceDecl name desc idle user rules) = is_formed_set false false user && list_all is_formed_rule rules

abbrev pub are_formed : List DeclText → Bool
are_formed decls = list_all is_formed decls
