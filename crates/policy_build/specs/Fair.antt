-- What protocols permit where one with a number that is out of range permits everything.
use Rattle.std.specs.Prelude.{ℕ, zero, suc, Bool, true, false, not, ◌||◌, List, [], ◌∷◌, flat_map, Option, Some, None, if◌then◌else◌, nat_lt}
use Rattle.std.specs.List.{list_all}
use Rattle.spoc_base.specs.Boxes.{TransportBox, AnyTransport, TcpPorts, UdpPorts, IcmpTypes, ProtocolNumber}
use Rattle.spoc_ast.specs.Written.{SimpleText, SimpleIp, SimpleTcp, SimpleUdp, SimpleIcmp, SimpleProto, PrtText, PrtSimple, PrtProtocol, PrtGroup, DeclText, NetworkDecl, RouterDecl, GroupDecl, AreaDecl, AggregateDecl, ProtocolDecl, ProtocolGroupDecl, RestrictionDecl, ServiceDecl}
use Rattle.policy_decls.specs.Numbers.{port_pair_of, icmp_of, number_of, spread, is_bad_range, is_bad_number, is_bad_simple, interval_from}
use Rattle.policy_decls.specs.Shapes.{is_bad_prt}
use Rattle.policy_decls.specs.Said.{prts_of}

abbrev pub fair_tcp : Option ((ℕ × ℕ) × (ℕ × ℕ)) → TransportBox
fair_tcp None = AnyTransport
fair_tcp (Some pair) = if is_bad_range pair.0 || is_bad_range pair.1 then AnyTransport else TcpPorts (interval_from pair.0) (interval_from pair.1) false

abbrev pub fair_udp : Option ((ℕ × ℕ) × (ℕ × ℕ)) → TransportBox
fair_udp None = AnyTransport
fair_udp (Some pair) = if is_bad_range pair.0 || is_bad_range pair.1 then AnyTransport else UdpPorts (interval_from pair.0) (interval_from pair.1)

abbrev pub fair_icmp : Option (Option ℕ × Option ℕ) → TransportBox
fair_icmp None = AnyTransport
fair_icmp (Some kind) = if is_bad_number kind.0 || is_bad_number kind.1 then AnyTransport else IcmpTypes kind.0 kind.1

abbrev pub fair_proto : Option ℕ → TransportBox
fair_proto None = AnyTransport
fair_proto (Some n) = if nat_lt 255 n then AnyTransport else ProtocolNumber n

abbrev pub fair_box : SimpleText → TransportBox
fair_box SimpleIp = AnyTransport
fair_box (SimpleTcp words) = fair_tcp (port_pair_of (spread words))
fair_box (SimpleUdp words) = fair_udp (port_pair_of (spread words))
fair_box (SimpleIcmp words) = fair_icmp (icmp_of (spread words))
fair_box (SimpleProto number) = fair_proto (number_of number.text)

abbrev pub fair_boxes_of : PrtText → List TransportBox
fair_boxes_of (PrtSimple protocol) = fair_box protocol ∷ []
fair_boxes_of (PrtProtocol name) = []
fair_boxes_of (PrtGroup name) = []

-- what a protocol of a rule permits, in order and with repeats, where groups nest so deep at most
abbrev pub fair_boxes : List DeclText → ℕ → PrtText → List TransportBox
fair_boxes decls zero prt = fair_boxes_of prt
fair_boxes decls (suc depth) prt = flat_map (fair_boxes decls depth) (prts_of decls prt)

-- no number in the protocols is out of range
abbrev pub are_fair : List PrtText → Bool
are_fair prts = list_all (λ prt. not (is_bad_prt prt)) prts

-- no number in a protocol that is declared here is out of range
abbrev pub declares_fair : DeclText → Bool
declares_fair (NetworkDecl name desc parts) = true
declares_fair (RouterDecl name desc parts) = true
declares_fair (GroupDecl name desc objects) = true
declares_fair (AreaDecl name desc parts) = true
declares_fair (AggregateDecl name desc parts) = true
declares_fair (ProtocolDecl name protocol notes) = not (is_bad_simple protocol)
declares_fair (ProtocolGroupDecl name prts) = are_fair prts
declares_fair (RestrictionDecl name desc ports) = true
declares_fair (ServiceDecl name desc idle user rules) = true
