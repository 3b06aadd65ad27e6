-- What must not stand in a declaration, by number.
use Rattle.std.specs.Prelude.{ℕ, Bool, true, false, not, ◌&&◌, ◌||◌, ◌==◌, nat_lt, List, [], ◌∷◌, ◌++◌, length, flat_map, filter, take, slice_get, Option, Some, None, option_and_then, if◌then◌else◌, codes}
use Rattle.std.specs.Str.{bytes_eq}
use Rattle.std.specs.List.{list_any}
use Rattle.spoc_base.specs.Address.{Cidr, Interval, addresses, interval_covers, prefix_holds}
use Rattle.policy_model.specs.Lists.{is_nothing}
use Rattle.spoc_ast.specs.Written.{Lexeme, PortText, SetText, NoParts, NetworkNamed, HostNamed, PortNamed, GroupNamed, AggregateNamed, AreaNamed, UserNamed, NetworksIn, HostsIn, ZonesIn, Joining, Keeping, Leaving, HostPartText, HostIp, HostRange, HostIdle, NatPartText, NetPartText, NetIp, NetHost, NetNat, NetIdle, VirtPartText, VirtIp, VirtKind, VirtId, IfPartText, IfIp, IfHardware, IfBindNat, IfVirtual, IfIdle, RoutPartText, AreaPartText, AreaAnchor, AreaBorder, AreaIdle, AnyPartText, AnyLink, AnyIp, AnyIdle, PrtText, PrtSimple, PrtProtocol, PrtGroup, RuleText, DeclText, NetworkDecl, RouterDecl, GroupDecl, AreaDecl, AggregateDecl, ProtocolDecl, ProtocolGroupDecl, RestrictionDecl, ServiceDecl}
use Rattle.policy_decls.specs.Numbers.{address_of, prefix_of, range_of, spread, holds_of, is_bad_simple}
use Rattle.policy_decls.specs.Lookup.{network_parts, ips_in_net_part, ips_in_nats, only_one, own_prefix, aligned, has_host_bit, router_parts, is_managed_router, managed_in, models_in, routings_in, IfaceText, ifaces_in, declared_ifaces, is_port, iface_addresses, iface_hardware, iface_binds}

abbrev pub has_two : {A : Type 0} → List A → Bool
has_two items = nat_lt 1 (length items)

abbrev pub has_one : {A : Type 0} → List A → Bool
has_one items = length items == 1

-- ---- networks

abbrev pub hosts_in : NetPartText → List (List HostPartText)
hosts_in (NetIp prefix) = []
hosts_in (NetHost name parts) = parts ∷ []
hosts_in (NetNat name parts) = []
hosts_in (NetIdle idle) = []

abbrev pub nats_in : NetPartText → List (List NatPartText)
nats_in (NetIp prefix) = []
nats_in (NetHost name parts) = []
nats_in (NetNat name parts) = parts ∷ []
nats_in (NetIdle idle) = []

-- 1: a network hasn't exactly one prefix, or a translation of it hasn't exactly one part, which is a prefix or says that the network is hidden
abbrev pub lacks_prefix : List NetPartText → Bool
lacks_prefix parts = not (has_one (flat_map ips_in_net_part parts)) || list_any (λ nat. not (has_one nat)) (flat_map nats_in parts)

-- the addresses of a part of a host, from the first to the last
abbrev pub spans_in : HostPartText → List (ℕ × ℕ)
spans_in (HostIp address) = ends (address_of address.text)
  where
    ends : Option ℕ → List (ℕ × ℕ)
    ends None = []
    ends (Some a) = (a, a) ∷ []
spans_in (HostRange words) = ends (range_of (spread words))
  where
    ends : Option (ℕ × ℕ) → List (ℕ × ℕ)
    ends None = []
    ends (Some r) = r ∷ []
spans_in (HostIdle idle) = []

-- 2: a host hasn't exactly one address or range, or its range's ends are reversed
abbrev pub is_bad_host : List HostPartText → Bool
is_bad_host parts = not (has_one (flat_map spans_in parts)) || list_any (λ r. nat_lt r.1 r.0) (flat_map spans_in parts)

abbrev pub interval_in : ℕ × ℕ → Interval
interval_in r = record { first = r.0; last = r.1 }

-- 3: a host's address or range leaves its network
abbrev pub leaves : Cidr → List HostPartText → Bool
leaves own parts = list_any (λ r. not (interval_covers (addresses (aligned own)) (interval_in r))) (flat_map spans_in parts)

-- 4: a prefix has a host bit
abbrev pub is_unaligned : Lexeme → Bool
is_unaligned w = holds_of has_host_bit (prefix_of w.text)

abbrev pub has_unaligned : List NetPartText → Bool
has_unaligned parts = list_any is_unaligned (flat_map ips_in_net_part parts ++ flat_map ips_in_nats parts)

-- 5: a translation's prefix has another length than its network's
abbrev pub has_other_length : Cidr → List NetPartText → Bool
has_other_length own parts = list_any (λ w. holds_of (λ p. not (p.len == own.len)) (prefix_of w.text)) (flat_map ips_in_nats parts)

-- ---- routers

abbrev pub is_model : Lexeme → Bool
is_model w = bytes_eq w.text (codes "IOS") || bytes_eq w.text (codes "ASA")

-- 6: `managed`, `model` or `routing` stands twice, or a managed router hasn't the model IOS or ASA
abbrev pub is_bad_device : List RoutPartText → Bool
is_bad_device parts =
    has_two (filter managed_in parts) || (has_two (flat_map models_in parts) || (has_two (flat_map routings_in parts)
    || (is_managed_router parts && not (list_any is_model (flat_map models_in parts)))))

-- 7: `ip`, `hardware` or `bind_nat` stands twice in an interface, or that of a managed router lacks an address or hardware
abbrev pub is_bad_iface : IfaceText → Bool
is_bad_iface i =
    has_two (iface_addresses i) || (has_two (iface_hardware i) || (has_two (iface_binds i)
    || (i.managed && (is_nothing (iface_addresses i) || is_nothing (iface_hardware i)))))

-- 8: an interface's address is outside its network
abbrev pub is_outside : List DeclText → IfaceText → Bool
is_outside decls i =
    holds_of (λ own. list_any (λ w. holds_of (λ a. not (prefix_holds (aligned own) a)) (address_of w.text)) (iface_addresses i)) (own_prefix (network_parts decls i.net.text))

abbrev pub same_texts : Lexeme → Lexeme → Bool
same_texts v w = bytes_eq v.text w.text

-- some word of the first list stands in the second
abbrev pub share : List Lexeme → List Lexeme → Bool
share vs ws = list_any (λ v. list_any (same_texts v) ws) vs

-- 9: an interface has the address of an earlier interface of the same network
abbrev pub has_address_of : IfaceText → IfaceText → Bool
has_address_of i j = same_texts i.net j.net && share (iface_addresses i) (iface_addresses j)

-- an item for which the test holds with one that stands before it in the list, or with one of the earlier ones
abbrev pub clash_with : {A : Type 0} → (A → A → Bool) → List A → List A → Bool
clash_with test earlier [] = false
clash_with test earlier (x ∷ xs) = list_any (test x) earlier || clash_with test (earlier ++ x ∷ []) xs

-- 10: two interfaces of a managed router have one hardware
abbrev pub has_hardware_of : IfaceText → IfaceText → Bool
has_hardware_of i j = i.managed && share (iface_hardware i) (iface_hardware j)

-- 11: an unmanaged router's interface binds tags, or one tag stands twice in an interface
abbrev pub is_bad_binding : IfaceText → Bool
is_bad_binding i = (not i.managed && not (is_nothing (iface_binds i))) || list_any (λ tags. clash_with same_texts [] tags) (iface_binds i)

-- the parts of the address that an interface shares with others
abbrev pub virtuals_in : IfPartText → List (List VirtPartText)
virtuals_in (IfIp address) = []
virtuals_in (IfHardware hardware) = []
virtuals_in (IfBindNat tags) = []
virtuals_in (IfVirtual parts) = parts ∷ []
virtuals_in (IfIdle idle) = []

abbrev pub iface_virtuals : IfaceText → List (List VirtPartText)
iface_virtuals iface = flat_map virtuals_in iface.parts

abbrev pub ips_in_virtual : VirtPartText → List Lexeme
ips_in_virtual (VirtIp address) = address ∷ []
ips_in_virtual (VirtKind kind) = []
ips_in_virtual (VirtId number) = []

-- the address is outside the network of a name
abbrev pub is_outside_net : List DeclText → Lexeme → Lexeme → Bool
is_outside_net decls net w = holds_of (λ own. holds_of (λ a. not (prefix_holds (aligned own) a)) (address_of w.text)) (own_prefix (network_parts decls net.text))

-- some interface of the network of a name has the address: of any router, and declared before or behind it
abbrev pub is_taken : List DeclText → Lexeme → Lexeme → Bool
is_taken decls net w = list_any (λ i. same_texts net i.net && list_any (same_texts w) (iface_addresses i)) (declared_ifaces decls)

-- a shared address hasn't exactly one address, or that is outside the network or an interface's address in it
abbrev pub is_bad_virtual : List DeclText → Lexeme → List VirtPartText → Bool
is_bad_virtual decls net parts = is_bad (only_one (flat_map ips_in_virtual parts))
  where
    is_bad : Option Lexeme → Bool
    is_bad None = true
    is_bad (Some w) = is_outside_net decls net w || is_taken decls net w

-- 15: an interface shares two addresses, or shares one and its router is unmanaged, or shares a bad one
abbrev pub is_bad_shared : List DeclText → IfaceText → Bool
is_bad_shared decls i =
    has_two (iface_virtuals i) || ((not i.managed && not (is_nothing (iface_virtuals i))) || list_any (is_bad_virtual decls i.net) (iface_virtuals i))

-- ---- restrictions, areas, aggregates, sets and rules

abbrev pub is_unmanaged_port : List DeclText → PortText → Bool
is_unmanaged_port decls port = not (is_managed_router (router_parts decls port.router.text))

abbrev pub same_port : PortText → PortText → Bool
same_port p q = same_texts p.router q.router && same_texts p.net q.net

-- two of the ports differ
abbrev pub differ : List PortText → Bool
differ [] = false
differ (p ∷ ports) = list_any (λ q. not (same_port p q)) ports

-- 12: a restriction has a member of an unmanaged router, or fewer than two different ones
abbrev pub is_bad_restriction : List DeclText → List PortText → Bool
is_bad_restriction decls ports = list_any (is_unmanaged_port decls) ports || not (differ ports)

-- 13: a port, a range of ports, an ICMP number or a protocol number is out of range
abbrev pub is_bad_prt : PrtText → Bool
is_bad_prt (PrtSimple protocol) = is_bad_simple protocol
is_bad_prt (PrtProtocol name) = false
is_bad_prt (PrtGroup name) = false

abbrev pub anchors_in : AreaPartText → List Lexeme
anchors_in (AreaAnchor name) = name ∷ []
anchors_in (AreaBorder ports) = []
anchors_in (AreaIdle idle) = []

abbrev pub borders_in : AreaPartText → List (List PortText)
borders_in (AreaAnchor name) = []
borders_in (AreaBorder ports) = ports ∷ []
borders_in (AreaIdle idle) = []

-- 14: an area has no anchor and no border, or two anchors, or two border parts, or a border of an unmanaged router
abbrev pub is_bad_area : List DeclText → List AreaPartText → Bool
is_bad_area decls parts =
    (is_nothing (flat_map anchors_in parts) && is_nothing (flat_map borders_in parts))
    || (has_two (flat_map anchors_in parts) || (has_two (flat_map borders_in parts) || list_any (list_any (is_unmanaged_port decls)) (flat_map borders_in parts)))

abbrev pub links_in : AnyPartText → List Lexeme
links_in (AnyLink name) = name ∷ []
links_in (AnyIp prefix) = []
links_in (AnyIdle idle) = []

abbrev pub ips_in_any_part : AnyPartText → List Lexeme
ips_in_any_part (AnyLink name) = []
ips_in_any_part (AnyIp prefix) = prefix ∷ []
ips_in_any_part (AnyIdle idle) = []

-- 14: an aggregate hasn't exactly one link, or has two prefixes
abbrev pub is_bad_aggregate : List AnyPartText → Bool
is_bad_aggregate parts = not (has_one (flat_map links_in parts)) || has_two (flat_map ips_in_any_part parts)

-- the prefixes that a set asks for
abbrev pub asked_in : SetText → List Lexeme
asked_in NoParts = []
asked_in (NetworkNamed name) = []
asked_in (HostNamed name) = []
asked_in (PortNamed port) = []
asked_in (GroupNamed name) = []
asked_in (AggregateNamed name) = []
asked_in (AreaNamed name) = []
asked_in UserNamed = []
asked_in (NetworksIn e) = asked_in e
asked_in (HostsIn e) = asked_in e
asked_in (ZonesIn None e) = asked_in e
asked_in (ZonesIn (Some only) e) = only ∷ asked_in e
asked_in (Joining e f) = asked_in e ++ asked_in f
asked_in (Keeping e f) = asked_in e ++ asked_in f
asked_in (Leaving e f) = asked_in e ++ asked_in f

-- the interfaces that a set names
abbrev pub ports_in : SetText → List PortText
ports_in NoParts = []
ports_in (NetworkNamed name) = []
ports_in (HostNamed name) = []
ports_in (PortNamed port) = port ∷ []
ports_in (GroupNamed name) = []
ports_in (AggregateNamed name) = []
ports_in (AreaNamed name) = []
ports_in UserNamed = []
ports_in (NetworksIn e) = ports_in e
ports_in (HostsIn e) = ports_in e
ports_in (ZonesIn only e) = ports_in e
ports_in (Joining e f) = ports_in e ++ ports_in f
ports_in (Keeping e f) = ports_in e ++ ports_in f
ports_in (Leaving e f) = ports_in e ++ ports_in f

-- the set names the user
abbrev pub says_user : SetText → Bool
says_user NoParts = false
says_user (NetworkNamed name) = false
says_user (HostNamed name) = false
says_user (PortNamed port) = false
says_user (GroupNamed name) = false
says_user (AggregateNamed name) = false
says_user (AreaNamed name) = false
says_user UserNamed = true
says_user (NetworksIn e) = says_user e
says_user (HostsIn e) = says_user e
says_user (ZonesIn only e) = says_user e
says_user (Joining e f) = says_user e || says_user f
says_user (Keeping e f) = says_user e || says_user f
says_user (Leaving e f) = says_user e || says_user f

-- 14: an interface of an unmanaged router that has no address
abbrev pub is_bare_port : List DeclText → PortText → Bool
is_bare_port decls port = list_any (λ i. is_port port i && (not i.managed && is_nothing (iface_addresses i))) (declared_ifaces decls)

abbrev pub sets_in_rule : RuleText → List SetText
sets_in_rule rule = rule.src ∷ rule.dst ∷ []

abbrev pub sets_in_objects : Option SetText → List SetText
sets_in_objects None = []
sets_in_objects (Some e) = e ∷ []

-- 14: a rule, be it one that permits or one that denies, names the user neither in its source nor in its destination
abbrev pub lacks_user : RuleText → Bool
lacks_user rule = not (says_user rule.src || says_user rule.dst)

abbrev pub ask_unaligned : List SetText → Bool
ask_unaligned sets = list_any is_unaligned (flat_map asked_in sets)

abbrev pub name_bare_port : List DeclText → List SetText → Bool
name_bare_port decls sets = list_any (is_bare_port decls) (flat_map ports_in sets)

-- ---- together

abbrev pub first_true : List (ℕ × Bool) → Option ℕ
first_true [] = None
first_true (row ∷ rows) = if row.1 then Some row.0 else first_true rows

-- The least number of what must not stand in the declaration and does, if any, by all declarations and by the interfaces that stand before it.
abbrev pub shape_in : List DeclText → List IfaceText → DeclText → Option ℕ
shape_in decls earlier (NetworkDecl name desc parts) =
    let own = own_prefix parts in
    first_true ((1, lacks_prefix parts) ∷ (2, list_any is_bad_host (flat_map hosts_in parts)) ∷ (3, holds_of (λ p. list_any (leaves p) (flat_map hosts_in parts)) own)
    ∷ (4, has_unaligned parts) ∷ (5, holds_of (λ p. has_other_length p parts) own) ∷ [])
shape_in decls earlier (RouterDecl name desc parts) =
    let ifaces = ifaces_in (RouterDecl name desc parts) in
    first_true ((6, is_bad_device parts) ∷ (7, list_any is_bad_iface ifaces) ∷ (8, list_any (is_outside decls) ifaces) ∷ (9, clash_with has_address_of earlier ifaces)
    ∷ (10, clash_with has_hardware_of [] ifaces) ∷ (11, list_any is_bad_binding ifaces) ∷ (15, list_any (is_bad_shared decls) ifaces) ∷ [])
shape_in decls earlier (GroupDecl name desc objects) =
    first_true ((4, ask_unaligned (sets_in_objects objects)) ∷ (14, name_bare_port decls (sets_in_objects objects)) ∷ [])
shape_in decls earlier (AreaDecl name desc parts) = first_true ((14, is_bad_area decls parts) ∷ [])
shape_in decls earlier (AggregateDecl name desc parts) = first_true ((4, list_any is_unaligned (flat_map ips_in_any_part parts)) ∷ (14, is_bad_aggregate parts) ∷ [])
shape_in decls earlier (ProtocolDecl name protocol notes) = first_true ((13, is_bad_simple protocol) ∷ [])
shape_in decls earlier (ProtocolGroupDecl name prts) = first_true ((13, list_any is_bad_prt prts) ∷ [])
shape_in decls earlier (RestrictionDecl name desc ports) = first_true ((12, is_bad_restriction decls ports) ∷ [])
shape_in decls earlier (ServiceDecl name desc idle user rules) =
    let sets = user ∷ flat_map sets_in_rule rules in
    first_true ((4, ask_unaligned sets) ∷ (13, list_any (λ rule. list_any is_bad_prt rule.prts) rules) ∷ (14, list_any lacks_user rules || name_bare_port decls sets) ∷ [])

-- the least number of the k-th declaration
abbrev pub shape_at : List DeclText → ℕ → Option ℕ
shape_at decls k = option_and_then (shape_in decls (declared_ifaces (take k decls))) (slice_get decls k)
