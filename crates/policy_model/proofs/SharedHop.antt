-- Two routers behind one address: to the static router before them they are one next hop, and no walk goes through both.
use Rattle.std.proofs.Common.{◌≡◌, refl, ℕ, List, [], ◌∷◌, true, false}
use Rattle.std.specs.Prelude.{Some, None}
use Rattle.spoc_base.specs.Address.{Cidr, cover_of}
use Rattle.spoc_base.specs.declared.dialect.Dialect.TheVariants.{Ios}
use Rattle.policy_model.specs.Policy.{Policy, OneNet, OfUser}
use Rattle.policy_model.specs.Zones.{Site}
use Rattle.policy_model.specs.Walks.{shared_sets, all_walks, allowed_walks}
use Rattle.policy_model.specs.Tags.{Views}
use Rattle.policy_model.specs.Permits.{Permit, Packet, permits_of}
use Rattle.policy_model.specs.Blocks.{list_at}
use Rattle.policy_model.specs.Routes.{Route, hops_of, table_hops, route_table}
use Rattle.policy_model.specs.Passing.{Config}
use Rattle.policy_model.specs.Delivery.{Turn, delivery, least_choice, Arrived}
use Rattle.policy_model.specs.Faults.{has_two_hops, has_bare_hop}
use Rattle.policy_model.specs.FirstFault.{IfaceShadowed, AtZone, is_lower, order_of, line_count}
use Rattle.policy_model.proofs.Shorthand.{ip, prefix, plain_net, managed, port, sharing_port, tcp_to, policy_of, one_service, no_views, step, point, tcp_packet}

abbrev a : Cidr
a = prefix (ip 10 0 1 0) 24

abbrev b : Cidr
b = prefix (ip 10 0 2 0) 24

abbrev c : Cidr
c = prefix (ip 10 0 3 0) 24

abbrev s : Cidr
s = prefix (ip 10 0 0 0) 24

abbrev both : ℕ
both = ip 10 0 1 100

-- interfaces: r1.a 0, r1.b 1, r2.b 2, r2.c 3, r3.a 4, r3.c 5, r0.s 6, r0.a 7
abbrev policy : Policy
policy =
    policy_of (plain_net a ∷ plain_net b ∷ plain_net c ∷ plain_net s ∷ []) [] (managed Ios ∷ managed Ios ∷ managed Ios ∷ managed Ios ∷ [])
    (sharing_port 0 0 (ip 10 0 1 1) both ∷ port 0 1 (ip 10 0 2 1) ∷ port 1 1 (ip 10 0 2 2) ∷ port 1 2 (ip 10 0 3 2) ∷ sharing_port 2 0 (ip 10 0 1 3) both ∷ port 2 2 (ip 10 0 3 3)
    ∷ port 3 3 (ip 10 0 0 1) ∷ port 3 0 (ip 10 0 1 9) ∷ []) [] [] (one_service (OneNet 3) OfUser (OneNet 2) (tcp_to 80 ∷ []))

abbrev site : Site
site = record { policy = policy; zones = 0 ∷ 1 ∷ 2 ∷ 3 ∷ [] }

abbrev views : Views
views = no_views (0 ∷ 1 ∷ 2 ∷ 3 ∷ []) (0 ∷ 1 ∷ 2 ∷ 3 ∷ [])

abbrev permits : List Permit
permits = permits_of site []

-- ---- walks

one_set : shared_sets policy ≡ (0 ∷ 4 ∷ []) ∷ []
one_set = refl

-- through either router
to_c : allowed_walks site 3 2 ≡ (step 6 7 ∷ step 0 1 ∷ step 2 3 ∷ []) ∷ (step 6 7 ∷ step 4 5 ∷ []) ∷ []
to_c = refl

-- but not through one and back through the other
from_b : all_walks site 1 2 ≡ (step 1 0 ∷ step 4 5 ∷ []) ∷ (step 2 3 ∷ []) ∷ []
from_b = refl

from_b_allowed : allowed_walks site 1 2 ≡ (step 2 3 ∷ []) ∷ []
from_b_allowed = refl

-- ---- hops and tables

two_next : hops_of site permits 3 2 ≡ record { out = 7; next = Some 0 } ∷ record { out = 7; next = Some 4 } ∷ []
two_next = refl

one_hop : table_hops site permits 3 2 ≡ record { out = 7; gateway = Some both } ∷ []
one_hop = refl

not_refused : has_two_hops site permits 3 2 ≡ false
not_refused = refl

not_bare : has_bare_hop site permits 3 2 ≡ false
not_bare = refl

abbrev table : ℕ → List Route
table r = route_table site views permits r

table_r0 : table 3 ≡ record { net = c; gateway = both; out = 7 } ∷ []
table_r0 = refl

table_r1 : table 0 ≡ record { net = s; gateway = ip 10 0 1 9; out = 0 } ∷ record { net = c; gateway = ip 10 0 2 2; out = 1 } ∷ []
table_r1 = refl

table_r2 : table 1 ≡ record { net = s; gateway = ip 10 0 2 1; out = 2 } ∷ []
table_r2 = refl

table_r3 : table 2 ≡ record { net = s; gateway = ip 10 0 1 9; out = 4 } ∷ []
table_r3 = refl

sixteen_lines : line_count site views permits ≡ 16
unfolding cover_of
sixteen_lines = refl

-- ---- a delivery

abbrev configs : List Config
configs =
    record { lists = list_at site views permits 0 ∷ list_at site views permits 1 ∷ []; routes = table 0 }
    ∷ record { lists = list_at site views permits 2 ∷ list_at site views permits 3 ∷ []; routes = table 1 }
    ∷ record { lists = list_at site views permits 4 ∷ list_at site views permits 5 ∷ []; routes = table 2 }
    ∷ record { lists = list_at site views permits 6 ∷ list_at site views permits 7 ∷ []; routes = table 3 } ∷ []

abbrev from_s : Packet
from_s = tcp_packet (point 3 (ip 10 0 0 5)) (point 2 (ip 10 0 3 7)) 1024 80 false

abbrev turns : List Turn
turns =
    record { crossing = step 6 7; gateway = Some both } ∷ record { crossing = step 0 1; gateway = Some (ip 10 0 2 2) } ∷ record { crossing = step 2 3; gateway = None } ∷ []

it_arrives : delivery site views configs from_s (least_choice site from_s) ≡ record { turns = turns; ending = Arrived }
unfolding cover_of
it_arrives = refl

-- ---- what is looked at first

-- an own address before a shared one, whatever networks they lie at
own_before_shared : is_lower (order_of permits (IfaceShadowed 0 false 3 (AtZone 0))) (order_of permits (IfaceShadowed 0 true 1 (AtZone 0))) ≡ true
own_before_shared = refl

shared_before_others : is_lower (order_of permits (IfaceShadowed 0 true 3 (AtZone 0))) (order_of permits (IfaceShadowed 4 false 1 (AtZone 0))) ≡ true
shared_before_others = refl
