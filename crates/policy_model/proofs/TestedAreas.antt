-- The same for the table of areas.
use Rattle.std.proofs.Common.{◌≡◌, ℕ, ◌+◌, ◌-◌, ◌<◌, Bool, true, not, ◌&&◌, List, [], ◌∷◌, length, subst, ⊎_elim, arith}
use Rattle.std.specs.Prelude.{◌==◌, nat_lt, filter, slice_index}
use Rattle.std.specs.List.{list_all}
use Rattle.std.specs.List.Sorted.{IsStrictlyIncreasing}
use Rattle.std.proofs.lemmas.Bool.{and_parts, or_cases, eqb-true, ltb-true, false≢true}
use Rattle.policy_model.specs.Lists.{numbers_below, lists_up_to, has}
use Rattle.policy_model.specs.Policy.{router_at, is_managed, area_of}
use Rattle.policy_model.specs.Paths.{Crossing, leads, all_steps, is_through_router, crosses_managed}
use Rattle.policy_model.specs.Zones.{Site, zone_at}
use Rattle.policy_model.specs.Objects.{AreAreas, IsInArea, area_zones, inside_borders, start_of}
use Rattle.policy_model.proofs.Tested.{each_below, each_two, each_two_below, if_so, if_so_lem, Reaches-stays, crossing_below, is_some_in, some_kept}

each_in : (test : ℕ → Bool) (xs : List ℕ) (n : ℕ) → list_all test xs ≡ true → has xs n ≡ true → test n ≡ true
each_in test [] n all here = absurd (false≢true here)
each_in test (x ∷ xs) n all here =
    let a = and_parts (test x) (list_all test xs) all in
    ⊎_elim (λ e. subst (λ (k : ℕ). test k ≡ true) (eqb-true x n e) a.0) (λ g. each_in test xs n a.1 g) (or_cases (x == n) (has xs n) here)

module _ (s : Site) (areas : List (List ℕ)) where
  -- the area has the zone
  abbrev pub holds : ℕ → ℕ → Bool
  holds k z = has (area_zones areas k) z

  abbrev pub steps_inside : ℕ → Crossing → Bool
  steps_inside k c = inside_borders s.policy (area_of s.policy k).borders c

  -- what one side of a router inside the area has, the other side has
  abbrev pub keeps_inside : ℕ → Bool
  keeps_inside k = each_two (λ i j. if_so (steps_inside k (record { enter = i; leave = j })) (if_so (holds k (zone_at s i)) (holds k (zone_at s j)))) (length s.policy.ifaces)

  -- the areas have what they must have
  abbrev pub areas_have : Bool
  areas_have = list_all (λ k. holds k (start_of s k) && keeps_inside k) (numbers_below (length areas))

  -- a way of at most two crossings from an area's start to a zone
  abbrev pub is_way : ℕ → ℕ → List Crossing → Bool
  is_way k z path = list_all (steps_inside k) path && leads (zone_at s) (start_of s k) path z

  abbrev pub short_paths : ℕ → List (List Crossing)
  short_paths k = lists_up_to 2 (filter (steps_inside k) (all_steps s.policy))

  -- the areas have nothing else
  abbrev pub areas_need : Bool
  areas_need = list_all (λ k. list_all (λ z. is_some_in (filter (is_way k z) (short_paths k))) (area_zones areas k)) (numbers_below (length areas))

  abbrev pub ascends : List ℕ → Bool
  ascends xs = list_all (λ k. nat_lt (slice_index xs k) (slice_index xs (k + 1))) (numbers_below (length xs - 1))

  abbrev pub are_areas : Bool
  are_areas = (length areas == length s.policy.areas) && list_all (λ k. ascends (area_zones areas k)) (numbers_below (length areas)) && areas_have && areas_need

  inside_stays : (k : ℕ) → keeps_inside k ≡ true → (c : Crossing) → steps_inside k c ≡ true → holds k (zone_at s c.enter) ≡ true → holds k (zone_at s c.leave) ≡ true
  inside_stays k h c steps here =
      let borders = (area_of s.policy k).borders in
      let a = and_parts (crosses_managed s.policy c && not (has borders c.enter)) (not (has borders c.leave)) steps in
      let b = and_parts (crosses_managed s.policy c) (not (has borders c.enter)) a.0 in
      let d = and_parts (is_through_router s.policy c) (is_managed s.policy (router_at s.policy c.enter)) b.0 in
      let e = crossing_below s.policy c d.0 in
      let t = each_two_below (λ i j. if_so (steps_inside k (record { enter = i; leave = j })) (if_so (holds k (zone_at s i)) (holds k (zone_at s j)))) (length s.policy.ifaces) h c.enter c.leave e.0 e.1 in
      if_so_lem (holds k (zone_at s c.enter)) (holds k (zone_at s c.leave)) (if_so_lem (steps_inside k c) (if_so (holds k (zone_at s c.enter)) (holds k (zone_at s c.leave))) t steps) here

  has_where_in : areas_have ≡ true → (k z : ℕ) → k < length areas → IsInArea s k z → holds k z ≡ true
  has_where_in h k z below r =
      let t = and_parts (holds k (start_of s k)) (keeps_inside k) (each_below (λ k. holds k (start_of s k) && keeps_inside k) (length areas) h k below) in
      Reaches-stays (steps_inside k) (zone_at s) (holds k) (inside_stays k t.1) (start_of s k) z r t.0

  in_where_has : areas_need ≡ true → (k z : ℕ) → k < length areas → holds k z ≡ true → IsInArea s k z
  in_where_has h k z below here =
      let t = each_below (λ k. list_all (λ z. is_some_in (filter (is_way k z) (short_paths k))) (area_zones areas k)) (length areas) h k below in
      let u = each_in (λ z. is_some_in (filter (is_way k z) (short_paths k))) (area_zones areas k) z t here in
      let path = some_kept (is_way k z) (short_paths k) u in
      let b = and_parts (list_all (steps_inside k) path.0) (leads (zone_at s) (start_of s k) path.0 z) path.1 in
      record { path = path.0; crossings = b.0; ends = b.1 }

  increasing : (xs : List ℕ) → ascends xs ≡ true → IsStrictlyIncreasing xs
  increasing xs h k below = ltb-true (slice_index xs k) (slice_index xs (k + 1)) (each_below (λ k. nat_lt (slice_index xs k) (slice_index xs (k + 1))) (length xs - 1) h k (omega arith))

  -- The test shows that the table is that of the areas.
  pub AreAreas-by_test : are_areas ≡ true → AreAreas s areas
  AreAreas-by_test h =
      let a = and_parts ((length areas == length s.policy.areas) && list_all (λ k. ascends (area_zones areas k)) (numbers_below (length areas)) && areas_have) areas_need h in
      let b = and_parts ((length areas == length s.policy.areas) && list_all (λ k. ascends (area_zones areas k)) (numbers_below (length areas))) areas_have a.0 in
      let c = and_parts (length areas == length s.policy.areas) (list_all (λ k. ascends (area_zones areas k)) (numbers_below (length areas))) b.0 in
      record {
        each = eqb-true (length areas) (length s.policy.areas) c.0;
        ascending = λ k below. increasing (area_zones areas k) (each_below (λ k. ascends (area_zones areas k)) (length areas) c.1 k below);
        zones = λ k z below. (in_where_has a.1 k z below, has_where_in b.1 k z below);
      }
