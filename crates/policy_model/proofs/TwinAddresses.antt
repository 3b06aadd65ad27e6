-- Two unmanaged routers at one network with one address, which declarations must not have: to a table they are one hop, yet the walk has two next hops, so
-- that a table that sends to its one hop doesn't tell where the packet goes. This is why interfaces of unmanaged routers must have addresses of their own.
use Rattle.std.proofs.Common.{◌≡◌, refl, List, [], ◌∷◌, false}
use Rattle.std.specs.Prelude.{Some}
use Rattle.spoc_base.specs.Address.{Cidr}
use Rattle.spoc_base.specs.declared.dialect.Dialect.TheVariants.{Ios}
use Rattle.policy_model.specs.Policy.{Policy, OneNet, OfUser}
use Rattle.policy_model.specs.Zones.{Site}
use Rattle.policy_model.specs.Permits.{Permit, permits_of}
use Rattle.policy_model.specs.Routes.{next_hops, table_hops}
use Rattle.policy_model.specs.Faults.{has_two_hops, has_bare_hop}
use Rattle.policy_model.proofs.Shorthand.{ip, prefix, plain_net, managed, unmanaged, port, bare_port, tcp_to, policy_of, one_service, step}

abbrev n1 : Cidr
n1 = prefix (ip 10 1 1 0) 24

abbrev link : Cidr
link = prefix (ip 10 9 0 0) 24

abbrev far : Cidr
far = prefix (ip 10 2 0 0) 16

-- interfaces: r.n1 0, r.link 1, u.link 2, u.far 3, w.link 4, w.far 5
abbrev policy : Policy
policy =
    policy_of (plain_net n1 ∷ plain_net link ∷ plain_net far ∷ []) [] (managed Ios ∷ unmanaged ∷ unmanaged ∷ [])
    (port 0 0 (ip 10 1 1 1) ∷ port 0 1 (ip 10 9 0 1) ∷ port 1 1 (ip 10 9 0 2) ∷ bare_port 1 2 ∷ port 2 1 (ip 10 9 0 2) ∷ bare_port 2 2 ∷ [])
    [] [] (one_service (OneNet 0) OfUser (OneNet 2) (tcp_to 80 ∷ []))

abbrev site : Site
site = record { policy = policy; zones = 0 ∷ 1 ∷ 1 ∷ [] }

abbrev permits : List Permit
permits = permits_of site []

two_next : next_hops policy 2 (step 0 1) [] ≡ record { out = 1; next = Some 2 } ∷ record { out = 1; next = Some 4 } ∷ []
two_next = refl

one_hop : table_hops site permits 0 2 ≡ record { out = 1; gateway = Some (ip 10 9 0 2) } ∷ []
one_hop = refl

no_fault : has_two_hops site permits 0 2 ≡ false
no_fault = refl

not_bare : has_bare_hop site permits 0 2 ≡ false
not_bare = refl
