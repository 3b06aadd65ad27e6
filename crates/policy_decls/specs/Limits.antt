-- How much may be declared.
use Rattle.std.specs.Prelude.{ℕ, Bool, false, ◌||◌, nat_lt, List, [], ◌∷◌, length, flat_map, filter, Option, Some, None, if◌then◌else◌}
use Rattle.std.specs.List.{list_any}
use Rattle.spoc_base.specs.declared.fault.LimitWord.{LimitWord}
use Rattle.spoc_base.specs.declared.fault.LimitWord.TheVariants.{Networks, Routers, Interfaces, Hosts, Services, Names, Nesting}
use Rattle.spoc_ast.specs.Written.{DeclText, NetworkDecl, RouterDecl, GroupDecl, AreaDecl, AggregateDecl, ProtocolDecl, ProtocolGroupDecl, RestrictionDecl, ServiceDecl}
use Rattle.policy_decls.specs.Names.{NameKind, NetworkName, HostName, RouterName, IfaceName, ServiceName, same_kind, declared_names}
use Rattle.policy_decls.specs.Nesting.{nesting_names, nests}
use Rattle.policy_decls.specs.Lookup.{is_managed_router, declared_ifaces, iface_hardware}

-- how many names of a kind are declared
abbrev pub count_of : List DeclText → NameKind → ℕ
count_of decls k = length (filter (λ name. same_kind name.kind k) (declared_names decls))

abbrev pub declares_managed : DeclText → Bool
declares_managed (NetworkDecl name desc parts) = false
declares_managed (RouterDecl name desc parts) = is_managed_router parts
declares_managed (GroupDecl name desc objects) = false
declares_managed (AreaDecl name desc parts) = false
declares_managed (AggregateDecl name desc parts) = false
declares_managed (ProtocolDecl name protocol notes) = false
declares_managed (ProtocolGroupDecl name prts) = false
declares_managed (RestrictionDecl name desc ports) = false
declares_managed (ServiceDecl name desc idle user rules) = false

abbrev pub managed_count : List DeclText → ℕ
managed_count decls = length (filter declares_managed decls)

-- a name, or the hardware of an interface, has more than a hundred bytes
abbrev pub has_long_name : List DeclText → Bool
has_long_name decls =
    list_any (λ name. nat_lt 100 (length name.text)) (declared_names decls)
    || list_any (λ w. nat_lt 100 (length w.text)) (flat_map iface_hardware (declared_ifaces decls))

-- groups or protocol groups nest more than 64 deep
abbrev pub nest_too_deep : List DeclText → Bool
nest_too_deep decls = list_any (nests decls 65) (nesting_names decls)

abbrev pub first_word : List (LimitWord × Bool) → Option LimitWord
first_word [] = None
first_word (row ∷ rows) = if row.1 then Some row.0 else first_word rows

-- the first limit that is passed
abbrev pub limit_passed : List DeclText → Option LimitWord
limit_passed decls = first_word (
    (Networks, nat_lt 65535 (count_of decls NetworkName)) ∷ (Routers, nat_lt 65535 (count_of decls RouterName) || nat_lt 4095 (managed_count decls))
    ∷ (Interfaces, nat_lt 65535 (count_of decls IfaceName)) ∷ (Hosts, nat_lt 1000000 (count_of decls HostName)) ∷ (Services, nat_lt 65535 (count_of decls ServiceName))
    ∷ (Names, has_long_name decls) ∷ (Nesting, nest_too_deep decls) ∷ [])
