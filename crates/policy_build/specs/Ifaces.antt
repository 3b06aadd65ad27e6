-- The interfaces of a router.
use Rattle.std.specs.Prelude.{◌≡◌, List, [], ◌∷◌, map, flat_map, slice_get, option_and_then}
use Rattle.std.specs.List.{All}
use Rattle.spoc_base.specs.declared.place.Source.{Source}
use Rattle.policy_model.specs.Policy as plain
use Rattle.policy_model.specs.Policy.{net_of, router_of}
use Rattle.spoc_ast.specs.Written.{Lexeme, IfPartText, RoutPartText, RoutManaged, RoutModel, RoutRouting, RoutIface, RoutIdle, DeclText, NetworkDecl, RouterDecl, GroupDecl, AreaDecl, AggregateDecl, ProtocolDecl, ProtocolGroupDecl, RestrictionDecl, ServiceDecl}
use Rattle.policy_decls.specs.Numbers.{address_of}
use Rattle.policy_decls.specs.Names.{RouterName, NetworkName}
use Rattle.policy_decls.specs.Lookup.{addresses_in, hardware_in, binds_in}
use Rattle.policy_decls.specs.Said.{number_of_name, number_of_tag, shared_in, text_or_none, policy_said}
use Rattle.topology.specs.Kept.{IsIfaceWritten}
use Rattle.topology.specs.declared.items.Iface.{Iface}

-- at the number of the word stands a router of that name
abbrev pub IsRouterCalled : List DeclText → Lexeme → Type 0
IsRouterCalled decls w = (router_of (policy_said decls) (number_of_name decls RouterName w)).name ≡ w.text

-- at the number of the word stands a network of that name
abbrev pub IsNetCalled : List DeclText → Lexeme → Type 0
IsNetCalled decls w = (net_of (policy_said decls) (number_of_name decls NetworkName w)).name ≡ w.text

-- the network of an interface is there
abbrev pub IsPartPlaced : List DeclText → RoutPartText → Type 0
IsPartPlaced decls (RoutManaged filter) = Unit {0}
IsPartPlaced decls (RoutModel model) = Unit {0}
IsPartPlaced decls (RoutRouting routing) = Unit {0}
IsPartPlaced decls (RoutIface name parts) = IsNetCalled decls name
IsPartPlaced decls (RoutIdle idle) = Unit {0}

-- Where a router is declared, it and the networks of its interfaces are there.
abbrev pub IsPlaced : List DeclText → DeclText → Type 0
IsPlaced decls (NetworkDecl name desc parts) = Unit {0}
IsPlaced decls (RouterDecl name desc parts) = IsRouterCalled decls name × All (IsPartPlaced decls) parts
IsPlaced decls (GroupDecl name desc objects) = Unit {0}
IsPlaced decls (AreaDecl name desc parts) = Unit {0}
IsPlaced decls (AggregateDecl name desc parts) = Unit {0}
IsPlaced decls (ProtocolDecl name protocol notes) = Unit {0}
IsPlaced decls (ProtocolGroupDecl name prts) = Unit {0}
IsPlaced decls (RestrictionDecl name desc ports) = Unit {0}
IsPlaced decls (ServiceDecl name desc idle user rules) = Unit {0}

-- it is called by the names of its router and its network, and its hardware is a part of the sources
abbrev pub IsIfaceIn : List Source → List DeclText → Iface → Type 0
IsIfaceIn sources decls x = IsIfaceWritten sources (policy_said decls) x

-- the interface of a router at a network, by the parts of its declaration
abbrev pub iface_in : List DeclText → Lexeme → Lexeme → List IfPartText → plain.Iface
iface_in decls router net parts = record {
  router = number_of_name decls RouterName router;
  net = number_of_name decls NetworkName net;
  addr = option_and_then (λ w. address_of w.text) (slice_get (flat_map addresses_in parts) 0);
  shared = option_and_then (λ w. address_of w.text) (slice_get (flat_map shared_in parts) 0);
  hardware = text_or_none (slice_get (flat_map hardware_in parts) 0);
  binds = flat_map (map (number_of_tag decls)) (flat_map binds_in parts);
}

abbrev pub ifaces_said_in : List DeclText → Lexeme → RoutPartText → List plain.Iface
ifaces_said_in decls router (RoutManaged filter) = []
ifaces_said_in decls router (RoutModel model) = []
ifaces_said_in decls router (RoutRouting routing) = []
ifaces_said_in decls router (RoutIface name parts) = iface_in decls router name parts ∷ []
ifaces_said_in decls router (RoutIdle idle) = []
