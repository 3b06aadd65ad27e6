-- Chains: longer by a crossing, and in the list of all.
use Rattle.std.proofs.Common.{◌≡◌, ℕ, ◌<◌, true, false, not, ◌&&◌, List, ◌∷◌, length, refl, sym, subst, arith}
use Rattle.std.specs.Prelude.{◌==◌, nat_lt, filter}
use Rattle.std.specs.List.{list_all}
use Rattle.std.proofs.Math.ListN.{length-map}
use Rattle.std.proofs.lemmas.Bool.{and_parts, and_from, eqb-true, eq-eqb, lt-ltb, not_from_false}
use Rattle.policy_model.specs.Lists.{has, are_distinct, lists_up_to, pairs_of}
use Rattle.policy_model.specs.Policy.{Policy, net_at, router_at, is_managed, all_ifaces, all_routers, unmanaged_routers}
use Rattle.policy_model.specs.Paths.{Crossing, all_steps, leads, places_on, routers_on, is_through_router, crosses_unmanaged}
use Rattle.policy_model.specs.Routes.{is_chain, all_chains}
use Rattle.policy_model.proofs.AllWalks.{IsIn, in_map, from_map, in_filter, in_numbers, in_pairs, in_lists_up_to, length-le_of_distinct}
use Rattle.policy_model.proofs.Tested.{crossing_below}
use Rattle.list_laws.proofs.Members.{each_in}

-- in by an interface and out by another
abbrev pub through : ℕ → ℕ → Crossing
through i j = record { enter = i; leave = j }

-- the parts of a chain, by name
pub record Parts (p : Policy) (from to : ℕ) (path : List Crossing) : Type 0 where
  pub crossings : list_all (crosses_unmanaged p) path ≡ true
  pub ends : leads (net_at p) from path to ≡ true
  pub nets_once : are_distinct (places_on (net_at p) from path) ≡ true
  pub routers_once : are_distinct (routers_on p path) ≡ true

-- an unmanaged router, by name
pub record Passes (p : Policy) (c : Crossing) : Type 0 where
  pub enters : c.enter < length p.ifaces
  pub leaves : c.leave < length p.ifaces
  pub same : router_at p c.enter ≡ router_at p c.leave
  pub unmanaged : not (is_managed p (router_at p c.enter)) ≡ true

module _ (p : Policy) where
  pub parts_of : (from to : ℕ) (path : List Crossing) → is_chain p from to path ≡ true → Parts p from to path
  parts_of from to path h =
      let a = list_all (crosses_unmanaged p) path in
      let l = leads (net_at p) from path to in
      let d = are_distinct (places_on (net_at p) from path) in
      let x = and_parts (a && l && d) (are_distinct (routers_on p path)) h in
      let y = and_parts (a && l) d x.0 in
      let z = and_parts a l y.0 in
      record { crossings = z.0; ends = z.1; nets_once = y.1; routers_once = x.1 }

  pub chain_of : (from to : ℕ) (path : List Crossing) → Parts p from to path → is_chain p from to path ≡ true
  chain_of from to path h =
      let a = list_all (crosses_unmanaged p) path in
      let l = leads (net_at p) from path to in
      let d = are_distinct (places_on (net_at p) from path) in
      and_from (a && l && d) (are_distinct (routers_on p path)) (and_from (a && l) d (and_from a l h.crossings h.ends) h.nets_once) h.routers_once

  pub passes : (c : Crossing) → crosses_unmanaged p c ≡ true → Passes p c
  passes c h =
      let n = length p.ifaces in
      let a = and_parts (is_through_router p c) (not (is_managed p (router_at p c.enter))) h in
      let b = crossing_below p c a.0 in
      let k = and_parts (nat_lt c.enter n && nat_lt c.leave n) (router_at p c.enter == router_at p c.leave) a.0 in
      record { enters = b.0; leaves = b.1; same = eqb-true (router_at p c.enter) (router_at p c.leave) k.1; unmanaged = a.1 }

  crosses : (i j : ℕ) → i < length p.ifaces → j < length p.ifaces → router_at p i ≡ router_at p j → is_managed p (router_at p i) ≡ false → crosses_unmanaged p (through i j) ≡ true
  crosses i j hi hj same unmanaged =
      let n = length p.ifaces in
      and_from (is_through_router p (through i j)) (not (is_managed p (router_at p i)))
      (and_from (nat_lt i n && nat_lt j n) (router_at p i == router_at p j) (and_from (nat_lt i n) (nat_lt j n) (lt-ltb i n hi) (lt-ltb j n hj))
      (eq-eqb (router_at p i) (router_at p j) same)) (not_from_false (is_managed p (router_at p i)) unmanaged)

  -- a chain with a crossing before it
  pub longer : (i j to : ℕ) (path : List Crossing) → i < length p.ifaces → j < length p.ifaces → router_at p i ≡ router_at p j → is_managed p (router_at p i) ≡ false →
      is_chain p (net_at p j) to path ≡ true → has (places_on (net_at p) (net_at p j) path) (net_at p i) ≡ false → has (routers_on p path) (router_at p i) ≡ false →
      is_chain p (net_at p i) to (through i j ∷ path) ≡ true
  longer i j to path hi hj same unmanaged h new_net new_router =
      let w = parts_of (net_at p j) to path h in
      chain_of (net_at p i) to (through i j ∷ path)
      (record {
        crossings = and_from (crosses_unmanaged p (through i j)) (list_all (crosses_unmanaged p) path) (crosses i j hi hj same unmanaged) w.crossings;
        ends = and_from (net_at p i == net_at p i) (leads (net_at p) (net_at p j) path to) (eq-eqb (net_at p i) (net_at p i) refl) w.ends;
        nets_once = and_from (not (has (places_on (net_at p) (net_at p j) path) (net_at p i))) (are_distinct (places_on (net_at p) (net_at p j) path))
            (not_from_false (has (places_on (net_at p) (net_at p j) path) (net_at p i)) new_net) w.nets_once;
        routers_once = and_from (not (has (routers_on p path) (router_at p i))) (are_distinct (routers_on p path))
            (not_from_false (has (routers_on p path) (router_at p i)) new_router) w.routers_once;
      })

  in_steps : (c : Crossing) → crosses_unmanaged p c ≡ true → IsIn c (filter (crosses_unmanaged p) (all_steps p))
  in_steps c h =
      let w = passes c h in
      let n = length p.ifaces in
      in_filter (crosses_unmanaged p) c (all_steps p)
      (in_map (λ (e : ℕ × ℕ). through e.0 e.1) (c.enter, c.leave) (pairs_of (all_ifaces p) (all_ifaces p))
      (in_pairs c.enter c.leave (all_ifaces p) (all_ifaces p) (in_numbers n c.enter w.enters) (in_numbers n c.leave w.leaves))) h

  module _ (placed : (i : ℕ) → i < length p.ifaces → router_at p i < length p.routers) where
    unmanaged_router : (c : Crossing) → crosses_unmanaged p c ≡ true → IsIn (router_at p c.enter) (unmanaged_routers p)
    unmanaged_router c h =
        let w = passes c h in
        in_filter (λ r. not (is_managed p r)) (router_at p c.enter) (all_routers p) (in_numbers (length p.routers) (router_at p c.enter) (placed c.enter w.enters)) w.unmanaged

    -- None is longer than there are unmanaged routers, so each is listed.
    pub listed : (from to : ℕ) (path : List Crossing) → is_chain p from to path ≡ true → IsIn path (all_chains p from to)
    listed from to path h =
        let w = parts_of from to path h in
        let each = each_in (crosses_unmanaged p) path w.crossings in
        let routers = λ (r : ℕ) (i : IsIn r (routers_on p path)).
        let k = from_map (λ (c : Crossing). router_at p c.enter) r path i in
        subst (λ x. IsIn x (unmanaged_routers p)) (sym k.2) (unmanaged_router k.0 (each k.0 k.1)) in
        let short = length-le_of_distinct (routers_on p path) (unmanaged_routers p) w.routers_once routers in
        let same = length-map path (λ (c : Crossing). router_at p c.enter) in
        in_filter (is_chain p from to) path (lists_up_to (length (unmanaged_routers p)) (filter (crosses_unmanaged p) (all_steps p)))
        (in_lists_up_to (length (unmanaged_routers p)) (filter (crosses_unmanaged p) (all_steps p)) path (λ c i. in_steps c (each c i)) (omega (arith, short, same))) h
