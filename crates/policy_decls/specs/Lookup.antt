-- What is declared under a name.
use Rattle.std.specs.Prelude.{ℕ, ◌-◌, ◌%◌, Bool, true, false, ◌&&◌, List, [], ◌∷◌, flat_map, filter, Option, Some, None, option_and_then, if◌then◌else◌, nat_lt}
use Rattle.std.specs.Str.{bytes_eq}
use Rattle.std.specs.List.{list_any}
use Rattle.spoc_base.specs.Address.{Cidr, size_of}
use Rattle.spoc_ast.specs.Written.{Lexeme, PortText, NatPartText, NatIp, NatHidden, NetPartText, NetIp, NetHost, NetNat, NetIdle, IfPartText, IfIp, IfHardware, IfBindNat, IfVirtual, IfIdle, RoutPartText, RoutManaged, RoutModel, RoutRouting, RoutIface, RoutIdle, DeclText, NetworkDecl, RouterDecl, GroupDecl, AreaDecl, AggregateDecl, ProtocolDecl, ProtocolGroupDecl, RestrictionDecl, ServiceDecl}
use Rattle.policy_decls.specs.Numbers.{prefix_of}

-- what a test gives for the first item for which it gives something
abbrev pub first_given : {A B : Type 0} → (A → Option B) → List A → Option B
first_given test [] = None
first_given test (x ∷ xs) = or_else (test x) (first_given test xs)
  where
    or_else : {C : Type 0} → Option C → Option C → Option C
    or_else None other = other
    or_else (Some y) other = Some y

abbrev pub or_nothing : {A : Type 0} → Option (List A) → List A
or_nothing None = []
or_nothing (Some xs) = xs

-- ---- networks

abbrev pub network_called : List ℕ → DeclText → Option (List NetPartText)
network_called text (NetworkDecl name desc parts) = if bytes_eq name.text text then Some parts else None
network_called text (RouterDecl name desc parts) = None
network_called text (GroupDecl name desc objects) = None
network_called text (AreaDecl name desc parts) = None
network_called text (AggregateDecl name desc parts) = None
network_called text (ProtocolDecl name protocol notes) = None
network_called text (ProtocolGroupDecl name prts) = None
network_called text (RestrictionDecl name desc ports) = None
network_called text (ServiceDecl name desc idle user rules) = None

-- the parts of the network of a name
abbrev pub network_parts : List DeclText → List ℕ → List NetPartText
network_parts decls text = or_nothing (first_given (network_called text) decls)

abbrev pub ips_in_net_part : NetPartText → List Lexeme
ips_in_net_part (NetIp prefix) = prefix ∷ []
ips_in_net_part (NetHost name parts) = []
ips_in_net_part (NetNat name parts) = []
ips_in_net_part (NetIdle idle) = []

abbrev pub ips_in_nat_part : NatPartText → List Lexeme
ips_in_nat_part (NatIp prefix) = prefix ∷ []
ips_in_nat_part NatHidden = []

abbrev pub ips_in_nats : NetPartText → List Lexeme
ips_in_nats (NetIp prefix) = []
ips_in_nats (NetHost name parts) = []
ips_in_nats (NetNat name parts) = flat_map ips_in_nat_part parts
ips_in_nats (NetIdle idle) = []

-- the only item of a list of one
abbrev pub only_one : {A : Type 0} → List A → Option A
only_one [] = None
only_one (x ∷ []) = Some x
only_one (x ∷ y ∷ xs) = None

-- a network's own prefix, where it has exactly one
abbrev pub own_prefix : List NetPartText → Option Cidr
own_prefix parts = option_and_then (λ w. prefix_of w.text) (only_one (flat_map ips_in_net_part parts))

-- the prefix of the addresses that agree with it in its first bits
abbrev pub aligned : Cidr → Cidr
aligned p = record { net = p.net - p.net % size_of p; len = p.len }

abbrev pub has_host_bit : Cidr → Bool
has_host_bit p = nat_lt 0 (p.net % size_of p)

-- ---- routers and interfaces

abbrev pub router_called : List ℕ → DeclText → Option (List RoutPartText)
router_called text (NetworkDecl name desc parts) = None
router_called text (RouterDecl name desc parts) = if bytes_eq name.text text then Some parts else None
router_called text (GroupDecl name desc objects) = None
router_called text (AreaDecl name desc parts) = None
router_called text (AggregateDecl name desc parts) = None
router_called text (ProtocolDecl name protocol notes) = None
router_called text (ProtocolGroupDecl name prts) = None
router_called text (RestrictionDecl name desc ports) = None
router_called text (ServiceDecl name desc idle user rules) = None

abbrev pub router_parts : List DeclText → List ℕ → List RoutPartText
router_parts decls text = or_nothing (first_given (router_called text) decls)

abbrev pub managed_in : RoutPartText → Bool
managed_in (RoutManaged filter) = true
managed_in (RoutModel model) = false
managed_in (RoutRouting routing) = false
managed_in (RoutIface name parts) = false
managed_in (RoutIdle idle) = false

abbrev pub is_managed_router : List RoutPartText → Bool
is_managed_router parts = list_any managed_in parts

abbrev pub models_in : RoutPartText → List Lexeme
models_in (RoutManaged filter) = []
models_in (RoutModel model) = model ∷ []
models_in (RoutRouting routing) = []
models_in (RoutIface name parts) = []
models_in (RoutIdle idle) = []

abbrev pub routings_in : RoutPartText → List Lexeme
routings_in (RoutManaged filter) = []
routings_in (RoutModel model) = []
routings_in (RoutRouting routing) = routing ∷ []
routings_in (RoutIface name parts) = []
routings_in (RoutIdle idle) = []

-- an interface as it is declared: its router, whether that is managed, its network, and its parts
pub record IfaceText : Type 0 where
  pub router : Lexeme
  pub managed : Bool
  pub net : Lexeme
  pub parts : List IfPartText

abbrev pub ifaces_in_part : Lexeme → Bool → RoutPartText → List IfaceText
ifaces_in_part router managed (RoutManaged filter) = []
ifaces_in_part router managed (RoutModel model) = []
ifaces_in_part router managed (RoutRouting routing) = []
ifaces_in_part router managed (RoutIface name parts) = record { router = router; managed = managed; net = name; parts = parts } ∷ []
ifaces_in_part router managed (RoutIdle idle) = []

-- the interfaces of a declaration, in their order
abbrev pub ifaces_in : DeclText → List IfaceText
ifaces_in (NetworkDecl name desc parts) = []
ifaces_in (RouterDecl name desc parts) = flat_map (ifaces_in_part name (is_managed_router parts)) parts
ifaces_in (GroupDecl name desc objects) = []
ifaces_in (AreaDecl name desc parts) = []
ifaces_in (AggregateDecl name desc parts) = []
ifaces_in (ProtocolDecl name protocol notes) = []
ifaces_in (ProtocolGroupDecl name prts) = []
ifaces_in (RestrictionDecl name desc ports) = []
ifaces_in (ServiceDecl name desc idle user rules) = []

abbrev pub declared_ifaces : List DeclText → List IfaceText
declared_ifaces decls = flat_map ifaces_in decls

abbrev pub is_port : PortText → IfaceText → Bool
is_port port iface = bytes_eq iface.router.text port.router.text && bytes_eq iface.net.text port.net.text

abbrev pub addresses_in : IfPartText → List Lexeme
addresses_in (IfIp address) = address ∷ []
addresses_in (IfHardware hardware) = []
addresses_in (IfBindNat tags) = []
addresses_in (IfVirtual parts) = []
addresses_in (IfIdle idle) = []

abbrev pub hardware_in : IfPartText → List Lexeme
hardware_in (IfIp address) = []
hardware_in (IfHardware hardware) = hardware ∷ []
hardware_in (IfBindNat tags) = []
hardware_in (IfVirtual parts) = []
hardware_in (IfIdle idle) = []

-- the tags of each part that binds some
abbrev pub binds_in : IfPartText → List (List Lexeme)
binds_in (IfIp address) = []
binds_in (IfHardware hardware) = []
binds_in (IfBindNat tags) = tags ∷ []
binds_in (IfVirtual parts) = []
binds_in (IfIdle idle) = []

abbrev pub iface_addresses : IfaceText → List Lexeme
iface_addresses iface = flat_map addresses_in iface.parts

abbrev pub iface_hardware : IfaceText → List Lexeme
iface_hardware iface = flat_map hardware_in iface.parts

abbrev pub iface_binds : IfaceText → List (List Lexeme)
iface_binds iface = flat_map binds_in iface.parts
