-- Two hosts at an ASA: one line for both with an object group, and no lines of replies.
use Rattle.std.proofs.Common.{◌≡◌, refl, [], ◌∷◌, true}
use Rattle.spoc_base.specs.Address.{Cidr, cover_of}
use Rattle.spoc_base.specs.declared.dialect.Dialect.TheVariants.{Asa}
use Rattle.policy_model.specs.Policy.{Policy, OneNet, OneHost, OfUser, Joined}
use Rattle.policy_model.specs.Zones.{Site}
use Rattle.policy_model.specs.Permits.{permits_of}
use Rattle.policy_model.specs.Filters.{deny_all}
use Rattle.policy_model.specs.Blocks.{list_at}
use Rattle.policy_model.specs.Optimised.{optimised_lines}
use Rattle.policy_model.specs.Grouped.{grouped_lines}
use Rattle.policy_model.proofs.Shorthand.{ip, prefix, one_host, plain_net, managed, port, tcp_to, permit_line, policy_of, one_service, no_views}

abbrev n1 : Cidr
n1 = prefix (ip 10 1 1 0) 24

abbrev n2 : Cidr
n2 = prefix (ip 10 1 2 0) 24

abbrev policy : Policy
policy =
    policy_of (plain_net n1 ∷ plain_net n2 ∷ [])
    (record { name = []; net = 0; range = record { first = ip 10 1 1 5; last = ip 10 1 1 5 } } ∷ record { name = []; net = 0; range = record { first = ip 10 1 1 9; last = ip 10 1 1 9 } } ∷ [])
    (managed Asa ∷ []) (port 0 0 (ip 10 1 1 1) ∷ port 0 1 (ip 10 1 2 1) ∷ []) [] [] (one_service (Joined (OneHost 0) (OneHost 1)) OfUser (OneNet 1) (tcp_to 80 ∷ []))

abbrev site : Site
site = record { policy = policy; zones = 0 ∷ 1 ∷ [] }

before_grouping : list_at site (no_views (0 ∷ 1 ∷ []) (0 ∷ [])) (permits_of site []) 0
    ≡ permit_line (one_host (ip 10 1 1 5)) n2 (tcp_to 80) ∷ permit_line (one_host (ip 10 1 1 9)) n2 (tcp_to 80) ∷ deny_all ∷ []
unfolding cover_of
before_grouping = refl

at_E1 : grouped_lines (optimised_lines (list_at site (no_views (0 ∷ 1 ∷ []) (0 ∷ [])) (permits_of site []) 0))
    ≡ record { permit = true; src = one_host (ip 10 1 1 5) ∷ one_host (ip 10 1 1 9) ∷ []; dst = n2 ∷ []; box = tcp_to 80 } ∷ deny_all ∷ []
unfolding cover_of
at_E1 = refl

at_E2 : grouped_lines (optimised_lines (list_at site (no_views (0 ∷ 1 ∷ []) (0 ∷ [])) (permits_of site []) 1)) ≡ deny_all ∷ []
unfolding cover_of
at_E2 = refl
