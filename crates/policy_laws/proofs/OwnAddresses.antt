-- A test of whether interfaces of unmanaged routers have addresses of their own.
use Rattle.std.proofs.Common.{◌≡◌, ℕ, Bool, true, false, not, ◌&&◌, ◌||◌, length, Some, refl, ap, ◌∙◌}
use Rattle.std.specs.Prelude.{◌==◌}
use Rattle.std.specs.List.{list_all}
use Rattle.std.proofs.lemmas.Bool.{and_from, eqb-true, eq-eqb, not_from_false, false≢true}
use Rattle.policy_model.specs.Policy.{Policy, gateway_at, net_at, router_at, is_managed, all_ifaces}
use Rattle.policy_model.specs.Walks.{same_address}
use Rattle.policy_model.proofs.AllWalks.{in_numbers}
use Rattle.list_laws.proofs.Members.{each_in}
use Rattle.policy_laws.specs.Routed.{HaveOwnAddresses}

-- unmanaged interfaces at one network with one address
abbrev clash : Policy → ℕ → ℕ → Bool
clash p i j = not (is_managed p (router_at p i)) && not (is_managed p (router_at p j)) && (net_at p i == net_at p j) && same_address (gateway_at p i) (gateway_at p j)

abbrev pub is_apart : Policy → ℕ → ℕ → Bool
is_apart p i j = not (clash p i j) || (i == j)

abbrev pub are_apart : Policy → Bool
are_apart p = list_all (λ i. list_all (is_apart p i) (all_ifaces p)) (all_ifaces p)

pub own_by_test : (p : Policy) → are_apart p ≡ true → HaveOwnAddresses p
own_by_test p t i j a hi hj mi mj at gi gj =
    let n = length p.ifaces in
    let row = each_in (λ i. list_all (is_apart p i) (all_ifaces p)) (all_ifaces p) t i (in_numbers n i hi) in
    let here = each_in (is_apart p i) (all_ifaces p) row j (in_numbers n j hj) in
    let ui = not (is_managed p (router_at p i)) in
    let uj = not (is_managed p (router_at p j)) in
    let same : same_address (gateway_at p i) (gateway_at p j) ≡ true =
    ap (λ o. same_address o (gateway_at p j)) gi ∙ (ap (same_address (Some a)) gj ∙ eq-eqb a a refl) in
    eqb-true i j (then_one (clash p i j) (i == j) here
    (and_from (ui && uj && (net_at p i == net_at p j)) (same_address (gateway_at p i) (gateway_at p j))
    (and_from (ui && uj) (net_at p i == net_at p j) (and_from ui uj (not_from_false (is_managed p (router_at p i)) mi) (not_from_false (is_managed p (router_at p j)) mj)) (eq-eqb (net_at p i) (net_at p j) at))
    same))
  where
    then_one : (c b : Bool) → (not c || b) ≡ true → c ≡ true → b ≡ true
    then_one true b h e = h
    then_one false b h e = absurd (false≢true e)
