-- Three zones in a row, and two areas: all of it, and what lies before a border. What an area stands for in a rule; and a border that no walk of its area
-- reaches.
use Rattle.std.proofs.Common.{◌≡◌, refl, [], ◌∷◌, arith}
use Rattle.std.specs.Prelude.{Some, None, List, ℕ}
use Rattle.spoc_base.specs.Address.{Cidr}
use Rattle.spoc_base.specs.declared.dialect.Dialect.TheVariants.{Ios}
use Rattle.policy_model.specs.Policy.{Policy, Area, OneNet, OneHost, OfArea, OfUser, NetsOf, HostsOf, ZonesOf, Common}
use Rattle.policy_model.specs.Zones.{Site}
use Rattle.policy_model.specs.Objects.{AreAreas, NetObject, HostObject, objects_of}
use Rattle.policy_model.specs.FirstFault.{HasFault, AreaSplit}
use Rattle.policy_model.specs.Headline.{Meaning}
use Rattle.policy_model.proofs.TestedAreas.{AreAreas-by_test}
use Rattle.policy_model.proofs.Shorthand.{ip, prefix, plain_net, managed, port, tcp_to, one_service, no_views}

abbrev n1 : Cidr
n1 = prefix (ip 10 1 1 0) 24

abbrev n2 : Cidr
n2 = prefix (ip 10 1 2 0) 24

abbrev n3 : Cidr
n3 = prefix (ip 10 1 3 0) 24

-- interfaces: r1.n1 0, r1.n2 1, r2.n2 2, r2.n3 3
abbrev policy : List Area → Policy
policy areas = record {
  nets = plain_net n1 ∷ plain_net n2 ∷ plain_net n3 ∷ [];
  hosts = record { name = []; net = 1; range = record { first = ip 10 1 2 5; last = ip 10 1 2 5 } } ∷ [];
  routers = managed Ios ∷ managed Ios ∷ [];
  ifaces = port 0 0 (ip 10 1 1 1) ∷ port 0 1 (ip 10 1 2 1) ∷ port 1 1 (ip 10 1 2 2) ∷ port 1 2 (ip 10 1 3 2) ∷ [];
  tags = [];
  restrictions = [];
  groups = [];
  areas = areas;
  aggregates = [];
  services = one_service (OneNet 0) OfUser (NetsOf (OfArea 0)) (tcp_to 80 ∷ []);
}

abbrev two_areas : List Area
two_areas = record { name = []; anchor = Some 0; borders = [] } ∷ record { name = []; anchor = None; borders = 2 ∷ [] } ∷ []

abbrev site : List Area → Site
site areas = record { policy = policy areas; zones = 0 ∷ 1 ∷ 2 ∷ [] }

-- without an anchor an area starts where its first border stands
abbrev table : List (List ℕ)
table = (0 ∷ 1 ∷ 2 ∷ []) ∷ (0 ∷ 1 ∷ []) ∷ []

they_are_its_areas : AreAreas (site two_areas) table
they_are_its_areas = AreAreas-by_test (site two_areas) table refl

networks : objects_of (site two_areas) table [] (NetsOf (OfArea 1)) ≡ NetObject 0 ∷ NetObject 1 ∷ []
networks = refl

hosts : objects_of (site two_areas) table [] (HostsOf (OfArea 1)) ≡ HostObject 0 ∷ []
hosts = refl

-- an area stands for its networks, so it has no host in common with anything
no_host : objects_of (site two_areas) table [] (HostsOf (Common (OfArea 1) (OneHost 0))) ≡ []
no_host = refl

whole_zones : objects_of (site two_areas) table [] (ZonesOf (Some n2) (OfArea 0)) ≡ NetObject 1 ∷ []
whole_zones = refl

-- An area that starts at n1 ends before its border r1.n2, whose zone isn't in it.
abbrev split : List Area
split = record { name = []; anchor = Some 0; borders = 1 ∷ [] } ∷ []

its_one_zone : AreAreas (site split) ((0 ∷ []) ∷ [])
its_one_zone = AreAreas-by_test (site split) ((0 ∷ []) ∷ []) refl

abbrev meaning : Meaning
meaning = record { site = site split; views = no_views (0 ∷ 1 ∷ 2 ∷ []) (0 ∷ 1 ∷ []); areas = (0 ∷ []) ∷ [] }

it_is_split : HasFault meaning (AreaSplit 0 1)
it_is_split = (omega arith, refl)
