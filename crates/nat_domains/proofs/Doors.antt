-- The doors of a zone.
use Rattle.std.proofs.Common.{◌≡◌, ◌∙◌, ◌<◌, ◌&&◌, ℕ, List, [], true, length, map, refl, sym, subst, arith}
use Rattle.std.specs.Prelude.{◌==◌, slice_index, slice_index_or}
use Rattle.std.proofs.lemmas.List.{length-map}
use Rattle.std.proofs.lemmas.Bool.{and_parts, and_from, eqb-true, eq-eqb}
use Rattle.spoc_base.specs.declared.ids.IfId.{IfId}
use Rattle.policy_model.specs.Lists.{has}
use Rattle.policy_model.specs.Policy.{Policy, router_at, is_managed, net_at}
use Rattle.policy_model.specs.Zones.{Site, zone_at}
use Rattle.zone_graph.specs.Grouped.{Graph, IsGraphOf, doors_with}
use Rattle.nat_domains.proofs.Members.{has_at, has_kept, kept_has, at_row}

pub record IsDoor (s : Site) (z i : ℕ) : Type 0 where
  pub there : i < length s.policy.ifaces
  pub managed : is_managed s.policy (router_at s.policy i) ≡ true
  pub at : zone_at s i ≡ z

module _ (p : Policy) (g : Graph) (graph : IsGraphOf p g) (z : ℕ) (inside : z < length g.nets) (ids : List IfId) (is : map (λ i. i.0) ids ≡ slice_index_or g.doors z []) where
  row : map (λ i. i.0) ids ≡ doors_with p g.zones z
  row = is ∙ graph.doors_are z (let e = graph.both in omega (arith, inside, e))

  pub has_door : (i : ℕ) → has (map (λ i. i.0) ids) i ≡ true → IsDoor (record { policy = p; zones = g.zones }) z i
  has_door i h =
      let test = λ (i : ℕ). is_managed p (router_at p i) && (slice_index g.zones (net_at p i) == z) in
      let w = has_kept test 0 (length p.ifaces) i (subst (λ (xs : List ℕ). has xs i ≡ true) row h) in
      let a = and_parts (is_managed p (router_at p i)) (slice_index g.zones (net_at p i) == z) w.2 in
      record { there = omega (arith, w.1); managed = a.0; at = eqb-true (slice_index g.zones (net_at p i)) z a.1 }

  pub door_has : (i : ℕ) → IsDoor (record { policy = p; zones = g.zones }) z i → has (map (λ i. i.0) ids) i ≡ true
  door_has i d =
      let test = λ (i : ℕ). is_managed p (router_at p i) && (slice_index g.zones (net_at p i) == z) in
      subst (λ (xs : List ℕ). has xs i ≡ true) (sym row)
      (kept_has test 0 (length p.ifaces) i (omega arith) (omega (arith, d.there))
      (and_from (is_managed p (router_at p i)) (slice_index g.zones (net_at p i) == z) d.managed (eq-eqb (slice_index g.zones (net_at p i)) z d.at)))

  pub door_at : (k : ℕ) → k < length ids → IsDoor (record { policy = p; zones = g.zones }) z (slice_index_or ids k (record { 0 = 0 })).0
  door_at k h =
      let here : k < length (map (λ (i : IfId). i.0) ids) = subst (λ (n : ℕ). k < n) (sym (length-map ids (λ (i : IfId). i.0))) h in
      subst (λ (x : ℕ). IsDoor (record { policy = p; zones = g.zones }) z x) (sym (at_row (λ (i : IfId). i.0) ids (map (λ (i : IfId). i.0) ids) (record { 0 = 0 }) refl k))
      (has_door (slice_index (map (λ (i : IfId). i.0) ids) k) (has_at (map (λ (i : IfId). i.0) ids) k here))
