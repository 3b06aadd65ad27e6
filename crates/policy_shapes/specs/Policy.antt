-- What is looked up in the declarations of a policy.
use Rattle.std.specs.Prelude.{◌≡◌, Bool, not, ◌&&◌, List, [], ◌∷◌, map, flat_map, Option, option_and_then, if◌then◌else◌}
use Rattle.spoc_base.specs.Address.{Cidr}
use Rattle.policy_model.specs.Lists.{is_nothing}
use Rattle.spoc_ast.specs.Written.{Lexeme, NetPartText, RoutPartText, DeclText, NetworkDecl, RouterDecl, GroupDecl, AreaDecl, AggregateDecl, ProtocolDecl, ProtocolGroupDecl, RestrictionDecl, ServiceDecl}
use Rattle.policy_decls.specs.Names.{Mention, declared_names}
use Rattle.policy_decls.specs.Lookup.{own_prefix, is_managed_router, IfaceText, declared_ifaces, iface_addresses}
use Rattle.policy_shapes.specs.Keys.{Key, key, has_key, address_keys}

-- a network that is declared, with its name
abbrev pub networks_in : DeclText → List (Lexeme × List NetPartText)
networks_in (NetworkDecl name desc parts) = (name, parts) ∷ []
networks_in (RouterDecl name desc parts) = []
networks_in (GroupDecl name desc objects) = []
networks_in (AreaDecl name desc parts) = []
networks_in (AggregateDecl name desc parts) = []
networks_in (ProtocolDecl name protocol notes) = []
networks_in (ProtocolGroupDecl name prts) = []
networks_in (RestrictionDecl name desc ports) = []
networks_in (ServiceDecl name desc idle user rules) = []

-- a router that is declared, with its name
abbrev pub routers_in : DeclText → List (Lexeme × List RoutPartText)
routers_in (NetworkDecl name desc parts) = []
routers_in (RouterDecl name desc parts) = (name, parts) ∷ []
routers_in (GroupDecl name desc objects) = []
routers_in (AreaDecl name desc parts) = []
routers_in (AggregateDecl name desc parts) = []
routers_in (ProtocolDecl name protocol notes) = []
routers_in (ProtocolGroupDecl name prts) = []
routers_in (RestrictionDecl name desc ports) = []
routers_in (ServiceDecl name desc idle user rules) = []

-- the networks' own prefixes, in the order of their declarations
abbrev pub own_prefixes : List DeclText → List (Option Cidr)
own_prefixes decls = map (λ net. own_prefix net.1) (flat_map networks_in decls)

-- whether the routers are managed, in the order of their declarations
abbrev pub managed_flags : List DeclText → List Bool
managed_flags decls = map (λ router. is_managed_router router.1) (flat_map routers_in decls)

-- an interface of an unmanaged router that has no address, by its router and its network
abbrev pub bare_keys : IfaceText → List Key
bare_keys i = if not i.managed && is_nothing (iface_addresses i) then key i.router.text i.net.text ∷ [] else []

abbrev pub joined : {A : Type 0} → Option (Option A) → Option A
joined found = option_and_then (λ x. x) found

-- the names and the tables are those of the declarations
pub record IsPolicy (decls : List DeclText) (names : List Mention) (own : List (Option Cidr)) (managed : List Bool) (bare taken : List Key) : Type 0 where
  pub named : names ≡ declared_names decls
  pub prefixes : own ≡ own_prefixes decls
  pub flags : managed ≡ managed_flags decls
  pub bares : has_key bare ≡ has_key (flat_map bare_keys (declared_ifaces decls))
  pub addresses : has_key taken ≡ has_key (flat_map address_keys (declared_ifaces decls))
