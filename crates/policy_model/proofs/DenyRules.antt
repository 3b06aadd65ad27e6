-- Rules that deny: what they hold is taken out of the permits, whatever service they stand in, and never out of replies.
use Rattle.std.proofs.Common.{◌≡◌, refl, List, [], ◌∷◌}
use Rattle.spoc_base.specs.Address.{Cidr, Interval, addresses, cover_of}
use Rattle.spoc_base.specs.Boxes.{TransportBox}
use Rattle.spoc_base.specs.declared.dialect.Dialect.TheVariants.{Ios}
use Rattle.policy_model.specs.Policy.{Host, Service, OneNet, OneHost, OfUser}
use Rattle.policy_model.specs.Zones.{Site}
use Rattle.policy_model.specs.Tags.{Views}
use Rattle.policy_model.specs.Permits.{Permit, one_address, listed_permits, listed_denials, permits_of, permit_count}
use Rattle.policy_model.specs.Filters.{Line, deny_all}
use Rattle.policy_model.specs.Blocks.{list_at}
use Rattle.policy_model.specs.Routes.{route_table}
use Rattle.policy_model.proofs.Shorthand.{ip, prefix, one_host, plain_net, managed, unmanaged, port, bare_port, tcp_to, tcp_back, tcp_range, permit_line, deny_line, policy_of, permit_rule, deny_rule, service_for, no_views}

abbrev n1 : Cidr
n1 = prefix (ip 10 1 1 0) 24

abbrev n2 : Cidr
n2 = prefix (ip 10 1 2 0) 24

abbrev sub : Cidr
sub = prefix (ip 10 1 2 128) 25

-- n1 and n2 at one router
abbrev site : List Host → List Service → Site
site hosts services = record {
  policy = policy_of (plain_net n1 ∷ plain_net n2 ∷ []) hosts (managed Ios ∷ []) (port 0 0 (ip 10 1 1 1) ∷ port 0 1 (ip 10 1 2 1) ∷ []) [] [] services;
  zones = 0 ∷ 1 ∷ [];
}

abbrev views : Views
views = no_views (0 ∷ 1 ∷ []) (0 ∷ [])

abbrev permit_to : Interval → TransportBox → Permit
permit_to range box = record { src = record { net = 0; range = addresses n1 }; dst = record { net = 1; range = range }; box = box }

-- ---- a host is taken out of its network

abbrev one_denied : Site
one_denied =
    site (record { name = []; net = 1; range = one_address (ip 10 1 2 10) } ∷ [])
    (service_for (OneNet 0) (deny_rule OfUser (OneHost 0) (tcp_to 80 ∷ []) ∷ permit_rule OfUser (OneNet 1) (tcp_to 80 ∷ []) ∷ []) ∷ [])

one_listed : listed_permits one_denied [] ≡ permit_to (addresses n2) (tcp_to 80) ∷ []
one_listed = refl

one_denial : listed_denials one_denied [] ≡ permit_to (one_address (ip 10 1 2 10)) (tcp_to 80) ∷ []
one_denial = refl

two_pieces : permits_of one_denied []
    ≡ permit_to (record { first = ip 10 1 2 0; last = ip 10 1 2 9 }) (tcp_to 80) ∷ permit_to (record { first = ip 10 1 2 11; last = ip 10 1 2 255 }) (tcp_to 80) ∷ []
two_pieces = refl

-- one permit and one denial are listed, and two permits are expanded
two_counted : permit_count one_denied [] ≡ 2
two_counted = refl

abbrev to_n2 : Cidr → Line
to_n2 dst = permit_line n1 dst (tcp_to 80)

denied_at_E1 : list_at one_denied views (permits_of one_denied []) 0
    ≡ to_n2 (prefix (ip 10 1 2 0) 29) ∷ to_n2 (prefix (ip 10 1 2 8) 31) ∷ to_n2 (one_host (ip 10 1 2 11)) ∷ to_n2 (prefix (ip 10 1 2 12) 30) ∷ to_n2 (prefix (ip 10 1 2 16) 28)
    ∷ to_n2 (prefix (ip 10 1 2 32) 27) ∷ to_n2 (prefix (ip 10 1 2 64) 26) ∷ to_n2 (prefix (ip 10 1 2 128) 25) ∷ deny_all ∷ []
unfolding cover_of
denied_at_E1 = refl

-- ---- ports are taken out of ports

abbrev ports_denied : Site
ports_denied =
    site [] (service_for (OneNet 0) (permit_rule OfUser (OneNet 1) (tcp_range 1 100 ∷ []) ∷ deny_rule OfUser (OneNet 1) (tcp_range 80 90 ∷ []) ∷ []) ∷ [])

ports_at_E1 : list_at ports_denied views (permits_of ports_denied []) 0 ≡ permit_line n1 n2 (tcp_range 1 79) ∷ permit_line n1 n2 (tcp_range 91 100) ∷ deny_all ∷ []
unfolding cover_of
ports_at_E1 = refl

-- ---- a service takes all that another one permits

abbrev all_denied : Site
all_denied =
    site [] (service_for (OneNet 0) (permit_rule OfUser (OneNet 1) (tcp_to 80 ∷ []) ∷ []) ∷ service_for (OneNet 0) (deny_rule OfUser (OneNet 1) (tcp_to 80 ∷ []) ∷ []) ∷ [])

nothing_left : permits_of all_denied [] ≡ []
nothing_left = refl

-- the list that is longer than what is expanded counts
still_counted : permit_count all_denied [] ≡ 1
still_counted = refl

nothing_at_E1 : list_at all_denied views (permits_of all_denied []) 0 ≡ deny_all ∷ []
nothing_at_E1 = refl

-- ---- replies pass whatever is denied the other way

abbrev way_back_denied : Site
way_back_denied = site [] (service_for (OneNet 0) (permit_rule OfUser (OneNet 1) (tcp_to 80 ∷ []) ∷ deny_rule (OneNet 1) OfUser (tcp_range 0 65535 ∷ []) ∷ []) ∷ [])

replies_at_E2 : list_at way_back_denied views (permits_of way_back_denied []) 1 ≡ permit_line n2 n1 (tcp_back 80) ∷ deny_all ∷ []
unfolding cover_of
replies_at_E2 = refl

-- ---- a network behind an unmanaged router, nested in the network before it, is taken out

abbrev sub_denied : Site
sub_denied = record {
  policy = policy_of (plain_net n1 ∷ plain_net n2 ∷ plain_net sub ∷ []) [] (managed Ios ∷ unmanaged ∷ [])
      (port 0 0 (ip 10 1 1 1) ∷ port 0 1 (ip 10 1 2 1) ∷ port 1 1 (ip 10 1 2 2) ∷ bare_port 1 2 ∷ []) [] []
      (service_for (OneNet 0) (deny_rule OfUser (OneNet 2) (tcp_to 80 ∷ []) ∷ permit_rule OfUser (OneNet 1) (tcp_to 80 ∷ []) ∷ []) ∷ []);
  zones = 0 ∷ 1 ∷ 1 ∷ [];
}

abbrev sub_views : Views
sub_views = no_views (0 ∷ 1 ∷ []) (0 ∷ 1 ∷ [])

-- the permit to the nested network is gone, and that to the network round it reaches into it no more
sub_at_E1 : list_at sub_denied sub_views (permits_of sub_denied []) 0 ≡ deny_line n1 sub ∷ permit_line n1 n2 (tcp_to 80) ∷ deny_all ∷ []
unfolding cover_of
sub_at_E1 = refl

sub_at_E2 : list_at sub_denied sub_views (permits_of sub_denied []) 1 ≡ deny_line sub n1 ∷ permit_line n2 n1 (tcp_back 80) ∷ deny_all ∷ []
unfolding cover_of
sub_at_E2 = refl

no_route : route_table sub_denied sub_views (permits_of sub_denied []) 0 ≡ []
no_route = refl
