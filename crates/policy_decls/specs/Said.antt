-- The policy that declarations say.
use Rattle.std.specs.Prelude.{ℕ, zero, suc, Bool, List, [], ◌∷◌, ◌++◌, map, flat_map, take, filter, position, slice_get, slice_index_or, Option, Some, None, option_map, option_and_then, if◌then◌else◌, codes}
use Rattle.std.specs.Str.{bytes_eq}
use Rattle.std.specs.List.{list_any}
use Rattle.spoc_base.specs.Address.{Cidr, Interval, any_address}
use Rattle.spoc_base.specs.Boxes.{TransportBox}
use Rattle.spoc_base.specs.declared.dialect.Dialect.{Dialect}
use Rattle.spoc_base.specs.declared.dialect.Dialect.TheVariants.{Ios, Asa}
use Rattle.policy_model.specs.Lists.{is_nothing, once_each}
use Rattle.policy_model.specs.Policy as plain
use Rattle.policy_model.specs.Walks.{shared_sets}
use Rattle.policy_model.specs.Policy.{Policy, net_of, router_of, net_at, router_at, ObjectExpr, NoObjects, OneNet, OneHost, OneIface, OfGroup, OfAggregate, OfArea, OfUser, NetsOf, HostsOf, ZonesOf, Joined, Common, Without}
use Rattle.spoc_ast.specs.Written.{Lexeme, PortText, SetText, NoParts, NetworkNamed, HostNamed, PortNamed, GroupNamed, AggregateNamed, AreaNamed, UserNamed, NetworksIn, HostsIn, ZonesIn, Joining, Keeping, Leaving, NetPartText, NetIp, NetHost, NetNat, NetIdle, IfPartText, IfIp, IfHardware, IfBindNat, IfVirtual, IfIdle, RoutPartText, PrtText, PrtSimple, PrtProtocol, PrtGroup, RuleText, DeclText, NetworkDecl, RouterDecl, GroupDecl, AreaDecl, AggregateDecl, ProtocolDecl, ProtocolGroupDecl, RestrictionDecl, ServiceDecl}
use Rattle.policy_decls.specs.Numbers.{address_of, prefix_of, box_in}
use Rattle.policy_decls.specs.Names.{NameKind, NetworkName, HostName, TagName, RouterName, IfaceName, GroupName, AreaName, AggregateName, same_kind, Mention, mention, mention_port, declared_names}
use Rattle.policy_decls.specs.Uses.{names_it}
use Rattle.policy_decls.specs.Lookup.{first_given, or_nothing, own_prefix, ips_in_nat_part, is_managed_router, models_in, routings_in, IfaceText, declared_ifaces, iface_addresses, iface_hardware, iface_binds}
use Rattle.policy_decls.specs.Shapes.{ips_in_virtual, spans_in, interval_in, anchors_in, borders_in, links_in, ips_in_any_part}

-- ---- numbers: each kind from 0 in the order of declarations, tags in that of each one's first

abbrev pub same_text : Mention → Mention → Bool
same_text a b = bytes_eq a.text b.text

abbrev pub names_of : List DeclText → NameKind → List Mention
names_of decls k = filter (λ name. same_kind name.kind k) (declared_names decls)

abbrev pub tag_names : List DeclText → List Mention
tag_names decls = once_each same_text (names_of decls TagName)

abbrev pub or_zero : Option ℕ → ℕ
or_zero None = 0
or_zero (Some n) = n

abbrev pub number_among : List Mention → Mention → ℕ
number_among names used = or_zero (position (names_it used) names)

abbrev pub number_of_name : List DeclText → NameKind → Lexeme → ℕ
number_of_name decls k name = number_among (names_of decls k) (mention k name)

abbrev pub number_of_tag : List DeclText → Lexeme → ℕ
number_of_tag decls name = number_among (tag_names decls) (mention TagName name)

abbrev pub number_of_port : List DeclText → PortText → ℕ
number_of_port decls port = number_among (names_of decls IfaceName) (mention_port port)

-- ---- sets

abbrev pub expr_in : List DeclText → SetText → ObjectExpr
expr_in decls NoParts = NoObjects
expr_in decls (NetworkNamed name) = OneNet (number_of_name decls NetworkName name)
expr_in decls (HostNamed name) = OneHost (number_of_name decls HostName name)
expr_in decls (PortNamed port) = OneIface (number_of_port decls port)
expr_in decls (GroupNamed name) = OfGroup (number_of_name decls GroupName name)
expr_in decls (AggregateNamed name) = OfAggregate (number_of_name decls AggregateName name)
expr_in decls (AreaNamed name) = OfArea (number_of_name decls AreaName name)
expr_in decls UserNamed = OfUser
expr_in decls (NetworksIn e) = NetsOf (expr_in decls e)
expr_in decls (HostsIn e) = HostsOf (expr_in decls e)
expr_in decls (ZonesIn only e) = ZonesOf (option_and_then (λ w. prefix_of w.text) only) (expr_in decls e)
expr_in decls (Joining e f) = Joined (expr_in decls e) (expr_in decls f)
expr_in decls (Keeping e f) = Common (expr_in decls e) (expr_in decls f)
expr_in decls (Leaving e f) = Without (expr_in decls e) (expr_in decls f)

-- ---- protocols

abbrev pub protocol_called : List ℕ → DeclText → Option (List PrtText)
protocol_called text (NetworkDecl name desc parts) = None
protocol_called text (RouterDecl name desc parts) = None
protocol_called text (GroupDecl name desc objects) = None
protocol_called text (AreaDecl name desc parts) = None
protocol_called text (AggregateDecl name desc parts) = None
protocol_called text (ProtocolDecl name protocol notes) = if bytes_eq name.text text then Some (PrtSimple protocol ∷ []) else None
protocol_called text (ProtocolGroupDecl name prts) = None
protocol_called text (RestrictionDecl name desc ports) = None
protocol_called text (ServiceDecl name desc idle user rules) = None

abbrev pub protocol_group_called : List ℕ → DeclText → Option (List PrtText)
protocol_group_called text (NetworkDecl name desc parts) = None
protocol_group_called text (RouterDecl name desc parts) = None
protocol_group_called text (GroupDecl name desc objects) = None
protocol_group_called text (AreaDecl name desc parts) = None
protocol_group_called text (AggregateDecl name desc parts) = None
protocol_group_called text (ProtocolDecl name protocol notes) = None
protocol_group_called text (ProtocolGroupDecl name prts) = if bytes_eq name.text text then Some prts else None
protocol_group_called text (RestrictionDecl name desc ports) = None
protocol_group_called text (ServiceDecl name desc idle user rules) = None

-- the protocols of a group
abbrev pub prts_of : List DeclText → PrtText → List PrtText
prts_of decls (PrtSimple protocol) = PrtSimple protocol ∷ []
prts_of decls (PrtProtocol name) = or_nothing (first_given (protocol_called name.text) decls)
prts_of decls (PrtGroup name) = or_nothing (first_given (protocol_group_called name.text) decls)

abbrev pub box_of_prt : PrtText → List TransportBox
box_of_prt (PrtSimple protocol) = box_in protocol ∷ []
box_of_prt (PrtProtocol name) = []
box_of_prt (PrtGroup name) = []

-- What a protocol of a rule permits, in order and with repeats. No circle is left, and groups nest 64 deep at most, with a protocol below.
abbrev pub boxes_in : List DeclText → ℕ → PrtText → List TransportBox
boxes_in decls zero prt = box_of_prt prt
boxes_in decls (suc depth) prt = flat_map (boxes_in decls depth) (prts_of decls prt)

-- how deep groups may nest, and a protocol below them
abbrev pub most_nested : ℕ
most_nested = 65

-- ---- the lists

abbrev pub cidr_or_any : Option Cidr → Cidr
cidr_or_any None = any_address
cidr_or_any (Some p) = p

abbrev pub first_prefix : List Lexeme → Option Cidr
first_prefix words = option_and_then (λ w. prefix_of w.text) (slice_get words 0)

abbrev pub nats_said : List DeclText → NetPartText → List (ℕ × Option Cidr)
nats_said decls (NetIp prefix) = []
nats_said decls (NetHost name parts) = []
nats_said decls (NetNat name parts) = (number_of_tag decls name, first_prefix (flat_map ips_in_nat_part parts)) ∷ []
nats_said decls (NetIdle idle) = []

abbrev pub range_or_none : Option (ℕ × ℕ) → Interval
range_or_none None = record { first = 0; last = 0 }
range_or_none (Some r) = interval_in r

abbrev pub hosts_said : ℕ → NetPartText → List plain.Host
hosts_said n (NetIp prefix) = []
hosts_said n (NetHost name parts) = record { name = name.text; net = n; range = range_or_none (slice_get (flat_map spans_in parts) 0) } ∷ []
hosts_said n (NetNat name parts) = []
hosts_said n (NetIdle idle) = []

-- what one declaration adds to a list
pub record Adds : Type 0 where
  pub nets : List plain.Net
  pub hosts : List plain.Host
  pub routers : List plain.Router
  pub restrictions : List plain.Restriction
  pub groups : List plain.Group
  pub areas : List plain.Area
  pub aggregates : List plain.Aggregate
  pub services : List plain.Service

abbrev pub no_adds : Adds
no_adds = record { nets = []; hosts = []; routers = []; restrictions = []; groups = []; areas = []; aggregates = []; services = [] }

abbrev pub dialect_in : List RoutPartText → Dialect
dialect_in parts = if list_any (λ w. bytes_eq w.text (codes "ASA")) (flat_map models_in parts) then Asa else Ios

-- a managed router without `routing` has static routes
abbrev pub device_in : List RoutPartText → Option plain.Device
device_in parts = if is_managed_router parts then Some (record { dialect = dialect_in parts; fixed = is_nothing (flat_map routings_in parts) }) else None

abbrev pub expr_or_none : List DeclText → Option SetText → ObjectExpr
expr_or_none decls None = NoObjects
expr_or_none decls (Some e) = expr_in decls e

-- At most so many protocols of a rule are kept: one more than there may be permits. A rule with more of them is over the limit with what is kept, unless
-- it lists nothing at all.
unfoldable pub most_boxes : ℕ
most_boxes = 4000001

-- a rule with all protocols that it names, in order and with repeats
abbrev pub whole_rule : List DeclText → RuleText → plain.Rule
whole_rule decls rule = record { deny = rule.deny; src = expr_in decls rule.src; dst = expr_in decls rule.dst; boxes = flat_map (boxes_in decls most_nested) rule.prts }

-- the rule as a policy holds it
abbrev pub rule_in : List DeclText → RuleText → plain.Rule
rule_in decls rule = record { deny = rule.deny; src = expr_in decls rule.src; dst = expr_in decls rule.dst; boxes = take most_boxes (flat_map (boxes_in decls most_nested) rule.prts) }

abbrev pub adds_of : List DeclText → DeclText → Adds
adds_of decls (NetworkDecl name desc parts) = record {
  nets = record { name = name.text; own = cidr_or_any (own_prefix parts); nats = flat_map (nats_said decls) parts } ∷ [];
  hosts = flat_map (hosts_said (number_of_name decls NetworkName name)) parts;
  routers = [];
  restrictions = [];
  groups = [];
  areas = [];
  aggregates = [];
  services = [];
}
adds_of decls (RouterDecl name desc parts) = record {
  nets = [];
  hosts = [];
  routers = record { name = name.text; device = device_in parts } ∷ [];
  restrictions = [];
  groups = [];
  areas = [];
  aggregates = [];
  services = [];
}
adds_of decls (GroupDecl name desc objects) = record {
  nets = [];
  hosts = [];
  routers = [];
  restrictions = [];
  groups = record { name = name.text; objects = expr_or_none decls objects } ∷ [];
  areas = [];
  aggregates = [];
  services = [];
}
adds_of decls (AreaDecl name desc parts) = record {
  nets = [];
  hosts = [];
  routers = [];
  restrictions = [];
  groups = [];
  areas = record {
    name = name.text;
    anchor = option_map (number_of_name decls NetworkName) (slice_get (flat_map anchors_in parts) 0);
    borders = flat_map (map (number_of_port decls)) (flat_map borders_in parts);
  } ∷ [];
  aggregates = [];
  services = [];
}
adds_of decls (AggregateDecl name desc parts) = record {
  nets = [];
  hosts = [];
  routers = [];
  restrictions = [];
  groups = [];
  areas = [];
  aggregates = record {
    name = name.text;
    link = or_zero (option_map (number_of_name decls NetworkName) (slice_get (flat_map links_in parts) 0));
    only = first_prefix (flat_map ips_in_any_part parts);
  } ∷ [];
  services = [];
}
adds_of decls (ProtocolDecl name protocol notes) = no_adds
adds_of decls (ProtocolGroupDecl name prts) = no_adds
adds_of decls (RestrictionDecl name desc ports) = record {
  nets = [];
  hosts = [];
  routers = [];
  restrictions = record { name = name.text; members = map (number_of_port decls) ports } ∷ [];
  groups = [];
  areas = [];
  aggregates = [];
  services = [];
}
adds_of decls (ServiceDecl name desc idle user rules) = record {
  nets = [];
  hosts = [];
  routers = [];
  restrictions = [];
  groups = [];
  areas = [];
  aggregates = [];
  services = record { name = name.text; user = expr_in decls user; rules = map (rule_in decls) rules } ∷ [];
}

abbrev pub text_or_none : Option Lexeme → List ℕ
text_or_none None = []
text_or_none (Some w) = w.text

-- the words of the addresses that a part of an interface shares with others
abbrev pub shared_in : IfPartText → List Lexeme
shared_in (IfIp address) = []
shared_in (IfHardware hardware) = []
shared_in (IfBindNat tags) = []
shared_in (IfVirtual parts) = flat_map ips_in_virtual parts
shared_in (IfIdle idle) = []

abbrev pub iface_shared : IfaceText → List Lexeme
iface_shared iface = flat_map shared_in iface.parts

-- an interface, at the numbers of its router and its network
abbrev pub iface_said : List DeclText → IfaceText → plain.Iface
iface_said decls i = record {
  router = number_of_name decls RouterName i.router;
  net = number_of_name decls NetworkName i.net;
  addr = option_and_then (λ w. address_of w.text) (slice_get (iface_addresses i) 0);
  shared = option_and_then (λ w. address_of w.text) (slice_get (iface_shared i) 0);
  hardware = text_or_none (slice_get (iface_hardware i) 0);
  binds = flat_map (map (number_of_tag decls)) (iface_binds i);
}

-- the restrictions that are declared
abbrev pub restrictions_declared : List DeclText → List plain.Restriction
restrictions_declared decls = flat_map (λ d. (adds_of decls d).restrictions) decls

-- What declarations say, with the restrictions that are declared alone.
abbrev pub policy_declared : List DeclText → Policy
policy_declared decls = record {
  nets = flat_map (λ d. (adds_of decls d).nets) decls;
  hosts = flat_map (λ d. (adds_of decls d).hosts) decls;
  routers = flat_map (λ d. (adds_of decls d).routers) decls;
  ifaces = map (iface_said decls) (declared_ifaces decls);
  tags = map (λ name. record { name = name.text }) (tag_names decls);
  restrictions = restrictions_declared decls;
  groups = flat_map (λ d. (adds_of decls d).groups) decls;
  areas = flat_map (λ d. (adds_of decls d).areas) decls;
  aggregates = flat_map (λ d. (adds_of decls d).aggregates) decls;
  services = flat_map (λ d. (adds_of decls d).services) decls;
}

-- the name of an interface: its router's, and behind a dot its network's
abbrev pub iface_name : Policy → ℕ → List ℕ
iface_name p i = (router_of p (router_at p i)).name ++ (codes "." ++ (net_of p (net_at p i)).name)

-- interfaces that share an address, of which a walk may use one at most, under the name of the least of them
abbrev pub implied_by : Policy → List ℕ → plain.Restriction
implied_by p members = record { name = iface_name p (slice_index_or members 0 0); members = members }

-- the restrictions that shared addresses imply
abbrev pub restrictions_implied : Policy → List plain.Restriction
restrictions_implied p = map (implied_by p) (shared_sets p)

-- The policy that declarations say, where none of them has a fault: behind the restrictions that are declared stand those that shared addresses imply.
abbrev pub policy_said : List DeclText → Policy
policy_said decls =
    let p = policy_declared decls in
    record {
      nets = p.nets;
      hosts = p.hosts;
      routers = p.routers;
      ifaces = p.ifaces;
      tags = p.tags;
      restrictions = p.restrictions ++ restrictions_implied p;
      groups = p.groups;
      areas = p.areas;
      aggregates = p.aggregates;
      services = p.services;
    }
