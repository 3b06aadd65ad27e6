-- The small site with an ASA, an IOS router, a translation and static routes is well formed and has no fault. So the main theorem and delivery hold of its
-- configs with no premise, and none of the laws is empty.
use Rattle.std.proofs.Common.{◌≡◌, ℕ, zero, suc, ◌<◌, Bool, true, false, not, ◌&&◌, ◌||◌, [], ◌∷◌, refl, subst, arith}
use Rattle.std.specs.Prelude.{◌==◌, nat_lt, Some, IfSome, slice_index_or, IsTrue}
use Rattle.std.specs.List.{list_all}
use Rattle.std.proofs.lemmas.Bool.{and_parts, ltb-true, eqb-true, eq-eqb, false≢true}
use Rattle.spoc_base.specs.Address.{Cidr, cover_of, prefix_holds, any_address}
use Rattle.policy_model.specs.Policy.{net_of, host_of, iface_of, net_at, router_at, all_ifaces}
use Rattle.policy_model.specs.Zones.{AreZones}
use Rattle.policy_model.specs.Objects.{AreAreas}
use Rattle.policy_model.specs.Blocks.{list_at}
use Rattle.policy_model.specs.Laws.{PassAlike}
use Rattle.policy_model.specs.Grouped.{grouped_lines}
use Rattle.policy_model.specs.Optimised.{optimised_lines}
use Rattle.policy_model.specs.FirstFault.{IsAccepted}
use Rattle.policy_model.specs.Headline.{Meaning, IsMeaning, IsExact, Delivers, Refuses}
use Rattle.policy_model.proofs.AllWalks.{in_numbers}
use Rattle.policy_model.proofs.Tested.{AreZones-by_test}
use Rattle.policy_model.proofs.TestedAreas.{AreAreas-by_test}
use Rattle.policy_model.proofs.SmallSite.{office, seen_office, dmz, link, policy, site, views, permits, configs, they_are_its_views}
use Rattle.list_laws.proofs.Members.{each_in}
use Rattle.policy_laws.specs.Secured.{no_nat, IsPrefix, IsNet, IsEnd, AreSecured, HaveLists}
use Rattle.policy_laws.specs.Shaped.{IsShaped}
use Rattle.policy_laws.proofs.OwnAddresses.{own_by_test}
use Rattle.policy_laws.specs.Routed.{AreRouted, IsWired, HaveTables}
use Rattle.policy_laws.proofs.Optimal.{list_optimised, written_alike}
use Rattle.policy_laws.proofs.Accepted.{secures, accepted_exact}
use Rattle.delivery_laws.proofs.AcceptedByTest.{Passed, accepted}
use Rattle.delivery_laws.proofs.Arrived.{delivers}
use Rattle.delivery_laws.proofs.Refused.{refuses}

-- ---- its tables

its_zones : AreZones policy (0 ∷ 1 ∷ 2 ∷ 3 ∷ [])
its_zones = AreZones-by_test policy (0 ∷ 1 ∷ 2 ∷ 3 ∷ []) refl

its_areas : AreAreas site []
its_areas = AreAreas-by_test site [] refl

abbrev pub meaning : Meaning
meaning = record { site = site; views = views; areas = [] }

its_meaning : IsMeaning policy meaning
its_meaning = record { policy = refl; zones = its_zones; views = they_are_its_views; areas = its_areas }

-- ---- its shape

office_prefix : IsPrefix office
office_prefix = record { cidr = record { short = omega arith; aligned = refl }; small = omega arith }

seen_prefix : IsPrefix seen_office
seen_prefix = record { cidr = record { short = omega arith; aligned = refl }; small = omega arith }

dmz_prefix : IsPrefix dmz
dmz_prefix = record { cidr = record { short = omega arith; aligned = refl }; small = omega arith }

link_prefix : IsPrefix link
link_prefix = record { cidr = record { short = omega arith; aligned = refl }; small = omega arith }

any_prefix : IsPrefix any_address
any_prefix = record { cidr = record { short = omega arith; aligned = refl }; small = omega arith }

each_net : (n : ℕ) → n < 4 → IsNet (net_of policy n)
each_net zero h = record { own = office_prefix; nats = first_nat }
  where
    first_nat : (k : ℕ) → k < 1 → IfSome (slice_index_or (net_of policy 0).nats k no_nat).1 (λ q. IsPrefix q × (q.len ≡ office.len))
    first_nat zero h = (seen_prefix, refl)
    first_nat (suc k) h = absurd (omega arith)
each_net (suc zero) h = record { own = dmz_prefix; nats = λ k none. absurd (omega arith) }
each_net (suc (suc zero)) h = record { own = link_prefix; nats = λ k none. absurd (omega arith) }
each_net (suc (suc (suc zero))) h = record { own = any_prefix; nats = λ k none. absurd (omega arith) }
each_net (suc (suc (suc (suc n)))) h = absurd (omega arith)

each_host : (h : ℕ) → h < 2 → IsEnd policy (record { net = (host_of policy h).net; range = (host_of policy h).range })
each_host zero h = record { ordered = omega arith; first = omega arith; last = omega arith }
each_host (suc zero) h = record { ordered = omega arith; first = omega arith; last = omega arith }
each_host (suc (suc k)) h = absurd (omega arith)

held : (c a : ℕ) (own : Cidr) → Some c ≡ Some a → prefix_holds own c ≡ true → prefix_holds own a ≡ true
held c a own e h = let same : c ≡ a = cc e in subst (λ (x : ℕ). prefix_holds own x ≡ true) same h

each_iface : (i a : ℕ) → (iface_of policy i).addr ≡ Some a → IsTrue (prefix_holds (net_of policy (net_at policy i)).own a)
each_iface zero a e = held _ a (net_of policy 0).own e refl
each_iface (suc zero) a e = held _ a (net_of policy 1).own e refl
each_iface (suc (suc zero)) a e = held _ a (net_of policy 2).own e refl
each_iface (suc (suc (suc zero))) a e = held _ a (net_of policy 2).own e refl
each_iface (suc (suc (suc (suc zero)))) a e = held _ a (net_of policy 3).own e refl
each_iface (suc (suc (suc (suc (suc i))))) a e = cc e

its_shape : IsShaped policy
its_shape = record { nets = each_net; hosts = each_host; ifaces = each_iface; groups = refl; services = refl }

each_placed : (i : ℕ) → i < 5 → (net_at policy i < 4) × (router_at policy i < 2)
each_placed i h =
    let w = and_parts (nat_lt (net_at policy i) 4) (nat_lt (router_at policy i) 2) (each_in (λ i. nat_lt (net_at policy i) 4 && nat_lt (router_at policy i) 2) (all_ifaces policy) refl i (in_numbers 5 i h)) in
    (ltb-true (net_at policy i) 4 w.0, ltb-true (router_at policy i) 2 w.1)

abbrev is_only : ℕ → ℕ → Bool
is_only i j = not ((router_at policy i == router_at policy j) && (net_at policy i == net_at policy j)) || (i == j)

only_from : (a b c : Bool) → (not (a && b) || c) ≡ true → a ≡ true → b ≡ true → c ≡ true
only_from true true c h e g = h
only_from true false c h e g = absurd (false≢true g)
only_from false b c h e g = absurd (false≢true e)

each_once : (i j : ℕ) → i < 5 → j < 5 → router_at policy i ≡ router_at policy j → net_at policy i ≡ net_at policy j → i ≡ j
each_once i j h g e f =
    let row = each_in (λ i. list_all (is_only i) (all_ifaces policy)) (all_ifaces policy) refl i (in_numbers 5 i h) in
    let here = each_in (is_only i) (all_ifaces policy) row j (in_numbers 5 j g) in
    eqb-true i j (only_from (router_at policy i == router_at policy j) (net_at policy i == net_at policy j) (i == j) here (eq-eqb (router_at policy i) (router_at policy j) e) (eq-eqb (net_at policy i) (net_at policy j) f))

its_wires : IsWired policy
its_wires = record { placed = each_placed; once = each_once; own = own_by_test policy refl }

-- ---- it has no fault

passed : Passed meaning
unfolding cover_of
passed = record { areas = refl; conflict = refl; twice = refl; inside = refl; same = refl; hosts = refl; ifaces = refl; ends = refl; seen = refl; joined = refl; limits = refl; hops = refl }

it_is_accepted : IsAccepted meaning
it_is_accepted = accepted meaning they_are_its_views passed

-- ---- its configs do as its own lists and tables do

secured : AreSecured site views permits × AreRouted site views permits
secured = secures meaning its_zones its_shape its_wires it_is_accepted

by_group : (i : ℕ) → i < 5 → PassAlike (list_at site views permits i) (grouped_lines (optimised_lines (list_at site views permits i)))
by_group i h = written_alike site views permits i (secured.0.lists i h)

lists : HaveLists site views permits configs
lists zero h managed = by_group 0 h
lists (suc zero) h managed = by_group 1 h
lists (suc (suc zero)) h managed = by_group 2 h
lists (suc (suc (suc zero))) h managed = (list_optimised site views permits 3 (secured.0.lists 3 h)).alike
lists (suc (suc (suc (suc zero)))) h managed = (list_optimised site views permits 4 (secured.0.lists 4 h)).alike
lists (suc (suc (suc (suc (suc i))))) h managed = absurd (omega arith)

tables : HaveTables site views permits configs
tables zero a static = refl
tables (suc zero) a static = refl
tables (suc (suc r)) a static = absurd (false≢true static)

-- ---- so with no premise

pub small_site_is_exact : IsExact policy configs
small_site_is_exact = accepted_exact policy meaning configs its_meaning its_shape its_wires it_is_accepted lists tables

pub small_site_delivers : Delivers meaning configs
small_site_delivers = delivers policy meaning configs its_meaning secured.0 lists secured.1 tables

pub small_site_refuses : Refuses meaning configs
small_site_refuses = refuses meaning configs secured.0 lists
