-- The first fault of hops as functions of a policy's meaning, as fault_laws has them of other rows.
use Rattle.std.specs.Prelude.{ℕ, Bool, not, ◌&&◌, List, ◌∷◌, map, flat_map, Option, Some, None}
use Rattle.std.specs.List.{list_any}
use Rattle.policy_model.specs.Lists.{pairs_of}
use Rattle.policy_model.specs.Policy.{Policy, all_nets, all_routers, all_ifaces}
use Rattle.policy_model.specs.Zones.{Site}
use Rattle.policy_model.specs.Permits.{Permit}
use Rattle.policy_model.specs.Routes.{NextHop, same_hop, hop_of, hops_of, is_static}
use Rattle.policy_model.specs.FirstFault.{FaultCase, NoHopAddress, AmbiguousHop, hop_order, is_lower, is_bare_next, has_hop}
use Rattle.policy_model.specs.Headline.{Meaning, permits_in}
use Rattle.fault_laws.specs.Cases.{first_case}

-- out by one interface: directly, or to each other interface
abbrev pub next_hops_by : Policy → ℕ → List NextHop
next_hops_by p i = record { out = i; next = None } ∷ map (λ k. record { out = i; next = Some k }) (all_ifaces p)

-- all next hops that there may be, in the order in which they are compared
abbrev pub all_next_hops : Policy → List NextHop
all_next_hops p = flat_map (next_hops_by p) (all_ifaces p)

-- The interface is the next one of a hop of the static router to the network, and has no address.
abbrev pub is_bare_hop : Site → List Permit → ℕ → ℕ → ℕ → Bool
is_bare_hop s permits r n i = is_static s.policy r && list_any (is_bare_next s.policy i) (hops_of s permits r n)

-- The static router has both next hops to the network, and its table can't have both.
abbrev pub are_two_hops : Site → List Permit → ℕ → ℕ → NextHop → NextHop → Bool
are_two_hops s permits r n h k =
    is_static s.policy r && has_hop (hops_of s permits r n) h && has_hop (hops_of s permits r n) k && not (same_hop (hop_of s.policy h) (hop_of s.policy k))
    && is_lower (hop_order h) (hop_order k)

-- a static router, a network, and the next interface of a hop, which has no address
abbrev pub bare_case : Meaning → Option FaultCase
bare_case m =
    first_case (λ e. NoHopAddress e.0.0 e.0.1 e.1) (λ e. is_bare_hop m.site (permits_in m) e.0.0 e.0.1 e.1)
    (pairs_of (pairs_of (all_routers m.site.policy) (all_nets m.site.policy)) (all_ifaces m.site.policy))

-- a static router, a network, and two hops
abbrev pub ambiguous_case : Meaning → Option FaultCase
ambiguous_case m =
    first_case (λ e. AmbiguousHop e.0.0 e.0.1 e.1.0 e.1.1) (λ e. are_two_hops m.site (permits_in m) e.0.0 e.0.1 e.1.0 e.1.1)
    (pairs_of (pairs_of (all_routers m.site.policy) (all_nets m.site.policy)) (pairs_of (all_next_hops m.site.policy) (all_next_hops m.site.policy)))
