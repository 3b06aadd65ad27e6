-- The object groups of an ASA's file.
use Rattle.std.specs.Prelude.{ℕ, ◌+◌, Bool, ◌&&◌, nat_lt, ◌==◌, if◌then◌else◌, List, [], ◌∷◌, ◌++◌, length, filter, flat_map, position, codes}
use Rattle.std.specs.Option.{unwrap_or}
use Rattle.std.specs.List.{list_any}
use Rattle.std.specs.Cmp.Lexicographic.{pointwise}
use Rattle.std.specs.Fmt.{decimal}
use Rattle.spoc_base.specs.Address.{Cidr}
use Rattle.policy_model.specs.Lists.{once_each}
use Rattle.policy_model.specs.Filters.{Line}
use Rattle.acl_print.specs.Words.{host_text, network_text}

abbrev pub is_equal : Cidr → Cidr → Bool
is_equal p q = (p.net == q.net) && (p.len == q.len)

abbrev pub same_prefixes : List Cidr → List Cidr → Bool
same_prefixes ps qs = pointwise is_equal ps qs

abbrev pub is_several : List Cidr → Bool
is_several ps = nat_lt 1 (length ps)

-- the source goes before the destination
abbrev pub ends_of : Line → List (List Cidr)
ends_of l = l.src ∷ l.dst ∷ []

-- the ends with several prefixes in the order of their first use, each once
abbrev pub groups_of : List (List Line) → List (List Cidr)
groups_of lists = once_each same_prefixes (filter is_several (flat_map (λ lines. flat_map ends_of lines) lists))

-- the groups after one end more
abbrev pub with_group : List (List Cidr) → List Cidr → List (List Cidr)
with_group groups ps = if is_several ps then (if list_any (same_prefixes ps) groups then groups else groups ++ ps ∷ []) else groups

-- the place of the first group with these prefixes
abbrev pub group_number : List (List Cidr) → List Cidr → ℕ
group_number groups ps = unwrap_or (position (same_prefixes ps) groups) 0

abbrev pub group_name : ℕ → List ℕ
group_name k = codes "g" ++ decimal k

abbrev pub addresses_text : Cidr → List ℕ
addresses_text p = if p.len == 32 then host_text p.net else network_text p

abbrev pub member_text : Cidr → List ℕ
member_text p = codes " network-object " ++ addresses_text p ++ codes "\n"

abbrev pub group_text : ℕ → List Cidr → List ℕ
group_text k members = codes "object-group network " ++ group_name k ++ codes "\n" ++ flat_map member_text members

-- the groups, numbered from this number on
abbrev pub groups_text : ℕ → List (List Cidr) → List ℕ
groups_text k [] = []
groups_text k (g ∷ groups) = group_text k g ++ groups_text (k + 1) groups
