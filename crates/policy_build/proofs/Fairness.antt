-- Where no number of a protocol is out of range, boxes are what declarations say.
use Rattle.std.proofs.Common.{◌≡◌, ◌∙◌, refl, ap, ℕ, zero, suc, Bool, true, false, not, ◌&&◌, ◌||◌, cond, List, [], ◌∷◌, flat_map, Option, Some, None, option_map, nat_lt}
use Rattle.std.specs.Str.{bytes_eq}
use Rattle.std.specs.List.{list_all}
use Rattle.spoc_base.specs.Boxes.{AnyTransport, TcpPorts, UdpPorts, IcmpTypes, ProtocolNumber}
use Rattle.policy_model.specs.Lists.{has}
use Rattle.spoc_ast.specs.Written.{SimpleText, SimpleIp, SimpleTcp, SimpleUdp, SimpleIcmp, SimpleProto, PrtText, PrtSimple, PrtProtocol, PrtGroup, DeclText, NetworkDecl, RouterDecl, GroupDecl, AreaDecl, AggregateDecl, ProtocolDecl, ProtocolGroupDecl, RestrictionDecl, ServiceDecl}
use Rattle.policy_decls.specs.Numbers.{port_pair_of, icmp_of, number_of, spread, is_bad_range, is_bad_number, is_bad_protocol, is_bad_simple, holds_of, interval_from, box_or_any, box_in}
use Rattle.policy_decls.specs.Lookup.{first_given, or_nothing}
use Rattle.policy_decls.specs.Shapes.{is_bad_prt}
use Rattle.policy_decls.specs.Said.{prts_of, protocol_called, protocol_group_called, boxes_in, box_of_prt, most_boxes, adds_of, policy_said}
use Rattle.policy_build.specs.Fair.{fair_tcp, fair_udp, fair_icmp, fair_proto, fair_box, fair_boxes, fair_boxes_of, are_fair, declares_fair}
use Rattle.policy_build.specs.Services.{services_at}
use Rattle.policy_build.proofs.Called.{first_none, first_some}
use Rattle.policy_build.proofs.Grown.{and_first, and_second, flat_map_same}

not_bad : (b : Bool) {A : Type 0} (x y : A) → not b ≡ true → cond b x y ≡ y
not_bad true x y e = absurd (cc)
not_bad false x y e = refl

or_first : (a b : Bool) → not (a || b) ≡ true → not a ≡ true
or_first true b e = e
or_first false b e = refl

tcp_is : (o : Option ((ℕ × ℕ) × (ℕ × ℕ))) → not (holds_of (λ pair. is_bad_range pair.0 || is_bad_range pair.1) o) ≡ true
    → fair_tcp o ≡ box_or_any (option_map (λ pair. TcpPorts (interval_from pair.0) (interval_from pair.1) false) o)
tcp_is None e = refl
tcp_is (Some pair) e = not_bad (is_bad_range pair.0 || is_bad_range pair.1) AnyTransport (TcpPorts (interval_from pair.0) (interval_from pair.1) false) e

udp_is : (o : Option ((ℕ × ℕ) × (ℕ × ℕ))) → not (holds_of (λ pair. is_bad_range pair.0 || is_bad_range pair.1) o) ≡ true
    → fair_udp o ≡ box_or_any (option_map (λ pair. UdpPorts (interval_from pair.0) (interval_from pair.1)) o)
udp_is None e = refl
udp_is (Some pair) e = not_bad (is_bad_range pair.0 || is_bad_range pair.1) AnyTransport (UdpPorts (interval_from pair.0) (interval_from pair.1)) e

icmp_is : (o : Option (Option ℕ × Option ℕ)) → not (holds_of (λ kind. is_bad_number kind.0 || is_bad_number kind.1) o) ≡ true → fair_icmp o ≡ box_or_any (option_map (λ kind. IcmpTypes kind.0 kind.1) o)
icmp_is None e = refl
icmp_is (Some kind) e = not_bad (is_bad_number kind.0 || is_bad_number kind.1) AnyTransport (IcmpTypes kind.0 kind.1) e

proto_is : (o : Option ℕ) → not (holds_of is_bad_protocol o) ≡ true → fair_proto o ≡ box_or_any (option_map ProtocolNumber o)
proto_is None e = refl
proto_is (Some n) e = not_bad (nat_lt 255 n) AnyTransport (ProtocolNumber n) (or_first (nat_lt 255 n) (has (0 ∷ 1 ∷ 6 ∷ 17 ∷ []) n) e)

box_is : (s : SimpleText) → not (is_bad_simple s) ≡ true → fair_box s ≡ box_in s
box_is SimpleIp e = refl
box_is (SimpleTcp words) e = tcp_is (port_pair_of (spread words)) e
box_is (SimpleUdp words) e = udp_is (port_pair_of (spread words)) e
box_is (SimpleIcmp words) e = icmp_is (icmp_of (spread words)) e
box_is (SimpleProto number) e = proto_is (number_of number.text) e

lone_is : (prt : PrtText) → not (is_bad_prt prt) ≡ true → fair_boxes_of prt ≡ box_of_prt prt
lone_is (PrtSimple s) e = ap (λ b. b ∷ []) (box_is s e)
lone_is (PrtProtocol name) e = refl
lone_is (PrtGroup name) e = refl

-- ---- what names stand for is fair

abbrev gives_fair : Option (List PrtText) → Bool
gives_fair None = true
gives_fair (Some prts) = are_fair prts

module _ (called : DeclText → Option (List PrtText)) (each : (d : DeclText) → declares_fair d ≡ true → gives_fair (called d) ≡ true) where
  first_fair : (o : Option (List PrtText)) (d : DeclText) (ds : List DeclText) → called d ≡ o → gives_fair o ≡ true → gives_fair (first_given called ds) ≡ true → gives_fair (first_given called (d ∷ ds)) ≡ true
  first_fair None d ds e f ih = ap gives_fair (first_none called d ds e) ∙ ih
  first_fair (Some prts) d ds e f ih = ap gives_fair (first_some called d prts ds e) ∙ f

  given_fair : (ds : List DeclText) → list_all declares_fair ds ≡ true → gives_fair (first_given called ds) ≡ true
  given_fair [] h = refl
  given_fair (d ∷ ds) h =
      first_fair (called d) d ds refl (each d (and_first (declares_fair d) (list_all declares_fair ds) h)) (given_fair ds (and_second (declares_fair d) (list_all declares_fair ds) h))

if_called : (b : Bool) (prts : List PrtText) → are_fair prts ≡ true → gives_fair (cond b (Some prts) None) ≡ true
if_called true prts h = h
if_called false prts h = refl

and_true : (b : Bool) → (b && true) ≡ b
and_true true = refl
and_true false = refl

protocol_fair : (t : List ℕ) (d : DeclText) → declares_fair d ≡ true → gives_fair (protocol_called t d) ≡ true
protocol_fair t (NetworkDecl name desc parts) h = refl
protocol_fair t (RouterDecl name desc parts) h = refl
protocol_fair t (GroupDecl name desc objects) h = refl
protocol_fair t (AreaDecl name desc parts) h = refl
protocol_fair t (AggregateDecl name desc parts) h = refl
protocol_fair t (ProtocolDecl name protocol notes) h = if_called (bytes_eq name.text t) (PrtSimple protocol ∷ []) (and_true (not (is_bad_simple protocol)) ∙ h)
protocol_fair t (ProtocolGroupDecl name prts) h = refl
protocol_fair t (RestrictionDecl name desc ports) h = refl
protocol_fair t (ServiceDecl name desc idle user rules) h = refl

group_fair : (t : List ℕ) (d : DeclText) → declares_fair d ≡ true → gives_fair (protocol_group_called t d) ≡ true
group_fair t (NetworkDecl name desc parts) h = refl
group_fair t (RouterDecl name desc parts) h = refl
group_fair t (GroupDecl name desc objects) h = refl
group_fair t (AreaDecl name desc parts) h = refl
group_fair t (AggregateDecl name desc parts) h = refl
group_fair t (ProtocolDecl name protocol notes) h = refl
group_fair t (ProtocolGroupDecl name prts) h = if_called (bytes_eq name.text t) prts h
group_fair t (RestrictionDecl name desc ports) h = refl
group_fair t (ServiceDecl name desc idle user rules) h = refl

nothing_fair : (o : Option (List PrtText)) → gives_fair o ≡ true → are_fair (or_nothing o) ≡ true
nothing_fair None h = refl
nothing_fair (Some prts) h = h

module _ (decls : List DeclText) (fair : list_all declares_fair decls ≡ true) where
  prts_fair : (prt : PrtText) → not (is_bad_prt prt) ≡ true → are_fair (prts_of decls prt) ≡ true
  prts_fair (PrtSimple s) h = and_true (not (is_bad_simple s)) ∙ h
  prts_fair (PrtProtocol w) h = nothing_fair (first_given (protocol_called w.text) decls) (given_fair (protocol_called w.text) (protocol_fair w.text) decls fair)
  prts_fair (PrtGroup w) h = nothing_fair (first_given (protocol_group_called w.text) decls) (given_fair (protocol_group_called w.text) (group_fair w.text) decls fair)

  boxes_are : (n : ℕ) (prt : PrtText) → not (is_bad_prt prt) ≡ true → fair_boxes decls n prt ≡ boxes_in decls n prt
  boxes_are zero prt h = lone_is prt h
  boxes_are (suc n) prt h = flat_map_same (λ p. not (is_bad_prt p)) (fair_boxes decls n) (boxes_in decls n) (boxes_are n) (prts_of decls prt) (prts_fair prt h)

  pub fair_prts : (n : ℕ) (prts : List PrtText) → are_fair prts ≡ true → flat_map (fair_boxes decls n) prts ≡ flat_map (boxes_in decls n) prts
  fair_prts n prts h = flat_map_same (λ p. not (is_bad_prt p)) (fair_boxes decls n) (boxes_in decls n) (boxes_are n) prts h

-- ---- services

service_is : (decls : List DeclText) (d : DeclText) → services_at decls 65 most_boxes d ≡ (adds_of decls d).services
service_is decls (NetworkDecl name desc parts) = refl
service_is decls (RouterDecl name desc parts) = refl
service_is decls (GroupDecl name desc objects) = refl
service_is decls (AreaDecl name desc parts) = refl
service_is decls (AggregateDecl name desc parts) = refl
service_is decls (ProtocolDecl name protocol notes) = refl
service_is decls (ProtocolGroupDecl name prts) = refl
service_is decls (RestrictionDecl name desc ports) = refl
service_is decls (ServiceDecl name desc idle user rules) = refl

pub services_are : (decls : List DeclText) → flat_map (services_at decls 65 most_boxes) decls ≡ (policy_said decls).services
services_are decls = ap (λ f. flat_map f decls) (λ i d. service_is decls d i)
