-- What must not stand in a declaration, by the kinds of declarations.
use Rattle.std.specs.Prelude.{ℕ, Bool, not, ◌||◌, ◌==◌, List, [], ◌∷◌, flat_map, Option, Some, None, option_map, if◌then◌else◌}
use Rattle.std.specs.List.{list_any}
use Rattle.spoc_base.specs.Address.{Cidr, prefix_holds}
use Rattle.spoc_base.specs.declared.place.Named.{Named}
use Rattle.spoc_ast.specs.Written.{Lexeme, PortText, SetText, NetPartText, RoutPartText, AreaPartText, AnyPartText, SimpleText, PrtText, RuleText, DeclText, NetworkDecl, RouterDecl, GroupDecl, AreaDecl, AggregateDecl, ProtocolDecl, ProtocolGroupDecl, RestrictionDecl, ServiceDecl}
use Rattle.policy_decls.specs.Numbers.{holds_of, address_of, prefix_of, is_bad_simple}
use Rattle.policy_decls.specs.Names.{names_in, shown_at}
use Rattle.policy_decls.specs.Lookup.{own_prefix, is_managed_router, IfaceText, ifaces_in_part, ifaces_in}
use Rattle.policy_decls.specs.Shapes.{first_true, has_one, lacks_prefix, is_bad_host, hosts_in, nats_in, leaves, has_unaligned, has_other_length, is_unaligned, is_bad_device, is_bad_iface, is_outside, has_hardware_of, clash_with, is_bad_binding, is_bad_shared, is_bad_restriction, is_bad_prt, is_bad_area, is_bad_aggregate, ips_in_any_part, sets_in_objects, sets_in_rule, ask_unaligned, name_bare_port, lacks_user}
use Rattle.policy_shapes.specs.Keys.{Key, with_keys, address_keys, clash_known}

-- a translation hasn't exactly one part
abbrev pub has_bad_nat : List NetPartText → Bool
has_bad_nat parts = list_any (λ nat. not (has_one nat)) (flat_map nats_in parts)

-- a prefix has another length than the network's own
abbrev pub other_length : Cidr → Lexeme → Bool
other_length own w = holds_of (λ p. not (p.len == own.len)) (prefix_of w.text)

-- an address is not in the prefix
abbrev pub is_outside_of : Cidr → Lexeme → Bool
is_outside_of own w = holds_of (λ a. not (prefix_holds own a)) (address_of w.text)

abbrev pub network_rows : List NetPartText → Option ℕ
network_rows parts =
    let own = own_prefix parts in
    first_true ((1, lacks_prefix parts) ∷ (2, list_any is_bad_host (flat_map hosts_in parts)) ∷ (3, holds_of (λ p. list_any (leaves p) (flat_map hosts_in parts)) own)
    ∷ (4, has_unaligned parts) ∷ (5, holds_of (λ p. has_other_length p parts) own) ∷ [])

abbrev pub router_ifaces : Lexeme → List RoutPartText → List IfaceText
router_ifaces name parts = flat_map (ifaces_in_part name (is_managed_router parts)) parts

-- an interface's address clashes with those that are known
abbrev pub iface_rows : List DeclText → (Key → Bool) → List IfaceText → Option ℕ
iface_rows decls has ifaces =
    first_true ((7, list_any is_bad_iface ifaces) ∷ (8, list_any (is_outside decls) ifaces) ∷ (9, clash_known address_keys address_keys has ifaces)
    ∷ (10, clash_with has_hardware_of [] ifaces) ∷ (11, list_any is_bad_binding ifaces) ∷ (15, list_any (is_bad_shared decls) ifaces) ∷ [])

abbrev pub router_rows : List DeclText → (Key → Bool) → Lexeme → List RoutPartText → Option ℕ
router_rows decls has name parts = if is_bad_device parts then Some 6 else iface_rows decls has (router_ifaces name parts)

abbrev pub group_rows : List DeclText → Option SetText → Option ℕ
group_rows decls objects = first_true ((4, ask_unaligned (sets_in_objects objects)) ∷ (14, name_bare_port decls (sets_in_objects objects)) ∷ [])

abbrev pub area_rows : List DeclText → List AreaPartText → Option ℕ
area_rows decls parts = first_true ((14, is_bad_area decls parts) ∷ [])

abbrev pub aggregate_rows : List AnyPartText → Option ℕ
aggregate_rows parts = first_true ((4, list_any is_unaligned (flat_map ips_in_any_part parts)) ∷ (14, is_bad_aggregate parts) ∷ [])

abbrev pub protocol_rows : SimpleText → Option ℕ
protocol_rows protocol = first_true ((13, is_bad_simple protocol) ∷ [])

abbrev pub protocol_group_rows : List PrtText → Option ℕ
protocol_group_rows prts = first_true ((13, list_any is_bad_prt prts) ∷ [])

abbrev pub restriction_rows : List DeclText → List PortText → Option ℕ
restriction_rows decls ports = first_true ((12, is_bad_restriction decls ports) ∷ [])

abbrev pub service_rows : List DeclText → SetText → List RuleText → Option ℕ
service_rows decls user rules =
    let sets = user ∷ flat_map sets_in_rule rules in
    first_true ((4, ask_unaligned sets) ∷ (13, list_any (λ rule. list_any is_bad_prt rule.prts) rules) ∷ (14, list_any lacks_user rules || name_bare_port decls sets) ∷ [])

-- the least number of a declaration, by the addresses of the interfaces that stand before it
abbrev pub shape_by : List DeclText → (Key → Bool) → DeclText → Option ℕ
shape_by decls has (NetworkDecl name desc parts) = network_rows parts
shape_by decls has (RouterDecl name desc parts) = router_rows decls has name parts
shape_by decls has (GroupDecl name desc objects) = group_rows decls objects
shape_by decls has (AreaDecl name desc parts) = area_rows decls parts
shape_by decls has (AggregateDecl name desc parts) = aggregate_rows parts
shape_by decls has (ProtocolDecl name protocol notes) = protocol_rows protocol
shape_by decls has (ProtocolGroupDecl name prts) = protocol_group_rows prts
shape_by decls has (RestrictionDecl name desc ports) = restriction_rows decls ports
shape_by decls has (ServiceDecl name desc idle user rules) = service_rows decls user rules

-- the addresses of a declaration's interfaces
abbrev pub decl_keys : DeclText → List Key
decl_keys decl = flat_map address_keys (ifaces_in decl)

-- a number with the declaration's name, else what the others give
abbrev pub or_rest : Option ℕ → DeclText → Option (ℕ × Named) → Option (ℕ × Named)
or_rest None decl rest = rest
or_rest (Some n) decl rest = option_map (λ name. (n, name)) (shown_at (names_in decl) 0)

-- the first of these declarations in which something stands that must not, by the addresses of the interfaces that stand before them
abbrev pub first_by : List DeclText → (Key → Bool) → List DeclText → Option (ℕ × Named)
first_by all has [] = None
first_by all has (decl ∷ decls) = or_rest (shape_by all has decl) decl (first_by all (with_keys has (decl_keys decl)) decls)
