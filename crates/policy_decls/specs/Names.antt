-- The names that declarations give.
use Rattle.std.specs.Prelude.{ℕ, Bool, false, ◌==◌, ◌&&◌, List, [], ◌∷◌, flat_map, filter, take, slice_get, Option, Some, None, option_map}
use Rattle.std.specs.Str.{bytes_eq}
use Rattle.std.specs.List.{list_any}
use Rattle.spoc_base.specs.declared.place.Named.{Named}
use Rattle.spoc_base.specs.declared.place.Named.TheVariants.{Plain, Iface}
use Rattle.spoc_base.specs.declared.place.Kind.{Kind}
use Rattle.spoc_base.specs.declared.place.Kind.TheVariants as kind
use Rattle.policy_model.specs.Lists.{numbers_below}
use Rattle.spoc_ast.specs.Written.{Lexeme, PortText, NetPartText, NetIp, NetHost, NetNat, NetIdle, RoutPartText, RoutManaged, RoutModel, RoutRouting, RoutIface, RoutIdle, DeclText, NetworkDecl, RouterDecl, GroupDecl, AreaDecl, AggregateDecl, ProtocolDecl, ProtocolGroupDecl, RestrictionDecl, ServiceDecl}

-- what a name names
pub data NameKind : Type 0 where
  NetworkName : NameKind
  HostName : NameKind
  TagName : NameKind
  RouterName : NameKind
  IfaceName : NameKind
  GroupName : NameKind
  AreaName : NameKind
  AggregateName : NameKind
  ProtocolName : NameKind
  ProtocolGroupName : NameKind
  RestrictionName : NameKind
  ServiceName : NameKind

abbrev pub number_of_kind : NameKind → ℕ
number_of_kind NetworkName = 0
number_of_kind HostName = 1
number_of_kind TagName = 2
number_of_kind RouterName = 3
number_of_kind IfaceName = 4
number_of_kind GroupName = 5
number_of_kind AreaName = 6
number_of_kind AggregateName = 7
number_of_kind ProtocolName = 8
number_of_kind ProtocolGroupName = 9
number_of_kind RestrictionName = 10
number_of_kind ServiceName = 11

abbrev pub same_kind : NameKind → NameKind → Bool
same_kind a b = number_of_kind a == number_of_kind b

-- A name where it is declared or used, and how it is printed. An interface's owner is its router and its text its network; a tag that is declared has its
-- network for an owner; nothing else has one.
pub record Mention : Type 0 where
  pub kind : NameKind
  pub owner : List ℕ
  pub text : List ℕ
  pub shown : Named

-- how the kind is printed before a name
abbrev pub printed_kind : NameKind → Kind
printed_kind NetworkName = kind.Network
printed_kind HostName = kind.Host
printed_kind TagName = kind.Tag
printed_kind RouterName = kind.Router
printed_kind IfaceName = kind.Network
printed_kind GroupName = kind.Group
printed_kind AreaName = kind.Area
printed_kind AggregateName = kind.Aggregate
printed_kind ProtocolName = kind.Protocol
printed_kind ProtocolGroupName = kind.ProtocolGroup
printed_kind RestrictionName = kind.Restriction
printed_kind ServiceName = kind.Service

abbrev pub mention : NameKind → Lexeme → Mention
mention k name = record { kind = k; owner = []; text = name.text; shown = Plain (printed_kind k) name.span }

abbrev pub mention_in : NameKind → Lexeme → Lexeme → Mention
mention_in k owner name = record { kind = k; owner = owner.text; text = name.text; shown = Plain (printed_kind k) name.span }

abbrev pub mention_port : PortText → Mention
mention_port port = record { kind = IfaceName; owner = port.router.text; text = port.net.text; shown = Iface port.router.span port.net.span }

abbrev pub names_in_net_part : Lexeme → NetPartText → List Mention
names_in_net_part net (NetIp prefix) = []
names_in_net_part net (NetHost name parts) = mention HostName name ∷ []
names_in_net_part net (NetNat name parts) = mention_in TagName net name ∷ []
names_in_net_part net (NetIdle idle) = []

abbrev pub names_in_rout_part : Lexeme → RoutPartText → List Mention
names_in_rout_part router (RoutManaged filter) = []
names_in_rout_part router (RoutModel model) = []
names_in_rout_part router (RoutRouting routing) = []
names_in_rout_part router (RoutIface name parts) = mention_port (record { router = router; net = name }) ∷ []
names_in_rout_part router (RoutIdle idle) = []

-- the names that a declaration gives, in the order in which they stand
abbrev pub names_in : DeclText → List Mention
names_in (NetworkDecl name desc parts) = mention NetworkName name ∷ flat_map (names_in_net_part name) parts
names_in (RouterDecl name desc parts) = mention RouterName name ∷ flat_map (names_in_rout_part name) parts
names_in (GroupDecl name desc objects) = mention GroupName name ∷ []
names_in (AreaDecl name desc parts) = mention AreaName name ∷ []
names_in (AggregateDecl name desc parts) = mention AggregateName name ∷ []
names_in (ProtocolDecl name protocol notes) = mention ProtocolName name ∷ []
names_in (ProtocolGroupDecl name prts) = mention ProtocolGroupName name ∷ []
names_in (RestrictionDecl name desc ports) = mention RestrictionName name ∷ []
names_in (ServiceDecl name desc idle user rules) = mention ServiceName name ∷ []

abbrev pub declared_names : List DeclText → List Mention
declared_names decls = flat_map names_in decls

-- two declarations of one kind and name; tags only within one network, and interfaces by router and network
abbrev pub same_name : Mention → Mention → Bool
same_name a b = same_kind a.kind b.kind && bytes_eq a.owner b.owner && bytes_eq a.text b.text

-- the least number below the count that passes the test
abbrev pub first_below : (ℕ → Bool) → ℕ → Option ℕ
first_below test count = slice_get (filter test (numbers_below count)) 0

-- whether the k-th name stands before it too
abbrev pub is_again : List Mention → ℕ → Bool
is_again names k = holds (slice_get names k)
  where
    holds : Option Mention → Bool
    holds None = false
    holds (Some name) = list_any (same_name name) (take k names)

-- the k-th mention, as it is printed
abbrev pub shown_at : List Mention → ℕ → Option Named
shown_at names k = option_map (λ name. name.shown) (slice_get names k)
