-- Marks that end nowhere, and don't reach a zone, show that no allowed walk leads there.
use Rattle.std.proofs.Common.{◌≡◌, ℕ, ◌<◌, refl, inl, inr, Bool, true, false, not, ◌&&◌, ◌||◌, List, [], ◌∷◌, ◌++◌, length, map, sym, ap, subst, ◌∙◌, ⊎_elim}
use Rattle.std.specs.Prelude.{◌==◌, nat_lt}
use Rattle.std.specs.List.{list_all}
use Rattle.std.proofs.lemmas.Bool.{and_parts, or_cases, or_left, or_right, eqb-true, eq-eqb, ltb-true, false≢true, not-true}
use Rattle.spoc_base.specs.declared.ids.ZoneId.{ZoneId}
use Rattle.policy_model.specs.Lists.{has, are_distinct, lists_up_to}
use Rattle.policy_model.specs.Policy.{router_at, is_managed, all_ifaces}
use Rattle.policy_model.specs.Paths.{Crossing, leads, places_on, routers_on, crosses_managed}
use Rattle.policy_model.specs.Zones.{Site, zone_at}
use Rattle.policy_model.specs.Walks.{is_crossing, is_allowed_walk, all_crossings}
use Rattle.policy_model.proofs.AllWalks.{IsIn, in_numbers, in_map, parts_of}
use Rattle.path_walk.specs.Search.{end_of}
use Rattle.path_walk.specs.Shut.{is_marked, keeps_marks, keep_marks, LeadsNowhere}
use Rattle.path_walk.specs.Swept.{numbers_of}
use Rattle.path_walk.proofs.Fronts.{refused, places_append, distinct_apart, leads_parts}
use Rattle.path_walk.proofs.Rows.{filter_none}

each_in : {A : Type 0} (test : A → Bool) (xs : List A) → list_all test xs ≡ true → (x : A) → IsIn x xs → test x ≡ true
each_in test [] h x g = absurd g
each_in test (y ∷ ys) h x (inl e) = ap test e ∙ (and_parts (test y) (list_all test ys) h).0
each_in test (y ∷ ys) h x (inr g) = each_in test ys (and_parts (test y) (list_all test ys) h).1 x g

back_all : {A : Type 0} (test : A → Bool) (xs ys : List A) → list_all test (xs ++ ys) ≡ true → list_all test ys ≡ true
back_all test [] ys h = h
back_all test (x ∷ xs) ys h = back_all test xs ys (and_parts (test x) (list_all test (xs ++ ys)) h).1

routers_append : (s : Site) (path more : List Crossing) → routers_on s.policy (path ++ more) ≡ routers_on s.policy path ++ routers_on s.policy more
routers_append s [] more = refl
routers_append s (c ∷ path) more = ap (λ (l : List ℕ). router_at s.policy c.enter ∷ l) (routers_append s path more)

there : (xs : List ℕ) (x : ℕ) → IsIn x xs → has xs x ≡ true
there [] x h = absurd h
there (y ∷ ys) x (inl e) = or_left (y == x) (has ys x) (eq-eqb y x (sym e))
there (y ∷ ys) x (inr h) = or_right (y == x) (has ys x) (there ys x h)

-- none of the zones is marked, so the one isn't
pub none_of : (marks : List Bool) (wanted : List ZoneId) (to : ℕ) → list_all (λ z. not (is_marked marks z.0)) wanted ≡ true → has (numbers_of wanted) to ≡ true → is_marked marks to ≡ false
none_of marks [] to h w = absurd (false≢true w)
none_of marks (z ∷ wanted) to h w =
    let a = and_parts (not (is_marked marks z.0)) (list_all (λ y. not (is_marked marks y.0)) wanted) h in
    ⊎_elim (λ e. sym (ap (is_marked marks) (eqb-true z.0 to e)) ∙ not-true (is_marked marks z.0) a.0) (λ e. none_of marks wanted to a.1 e) (or_cases (z.0 == to) (has (numbers_of wanted) to) w)

-- both interfaces of a crossing are there, and its router is one
pub record IsThrough (s : Site) (c : Crossing) : Type 0 where
  pub enter : c.enter < length s.policy.ifaces
  pub leave : c.leave < length s.policy.ifaces
  pub router : router_at s.policy c.enter ≡ router_at s.policy c.leave

through : (s : Site) (c : Crossing) → is_crossing s c ≡ true → IsThrough s c
through s c h =
    let n = length s.policy.ifaces in
    let a = and_parts (crosses_managed s.policy c) (not (zone_at s c.enter == zone_at s c.leave)) h in
    let b = and_parts (nat_lt c.enter n && nat_lt c.leave n && (router_at s.policy c.enter == router_at s.policy c.leave)) (is_managed s.policy (router_at s.policy c.enter)) a.0 in
    let d = and_parts (nat_lt c.enter n && nat_lt c.leave n) (router_at s.policy c.enter == router_at s.policy c.leave) b.0 in
    let e = and_parts (nat_lt c.enter n) (nat_lt c.leave n) d.0 in
    record { enter = ltb-true c.enter n e.0; leave = ltb-true c.leave n e.1; router = eqb-true (router_at s.policy c.enter) (router_at s.policy c.leave) d.1 }

module _ (s : Site) (from to : ℕ) (path : List Crossing) (zones routers : List Bool) (keep : keep_marks s from path zones routers ≡ true) where
  kept_at : (i : ℕ) → i < length s.policy.ifaces → has (routers_on s.policy path) (router_at s.policy i) ≡ false →
      (not (is_marked zones (zone_at s i)) || is_marked routers (router_at s.policy i))
      && (not (is_marked routers (router_at s.policy i)) || is_marked zones (zone_at s i) || has (places_on (zone_at s) from path) (zone_at s i)) ≡ true
  kept_at i below passed =
      let rest = (not (is_marked zones (zone_at s i)) || is_marked routers (router_at s.policy i))
      && (not (is_marked routers (router_at s.policy i)) || is_marked zones (zone_at s i) || has (places_on (zone_at s) from path) (zone_at s i)) in
      ⊎_elim (λ h. absurd (false≢true (sym passed ∙ h))) (λ h. h)
      (or_cases (has (routers_on s.policy path) (router_at s.policy i)) rest
      (each_in (keeps_marks s from path zones routers) (all_ifaces s.policy) keep i (in_numbers (length s.policy.ifaces) i below)))

  -- a crossing leads from a marked zone to a marked one
  marked_behind : (c : Crossing) → is_crossing s c ≡ true → has (routers_on s.policy path) (router_at s.policy c.enter) ≡ false →
      has (places_on (zone_at s) from path) (zone_at s c.leave) ≡ false → is_marked zones (zone_at s c.enter) ≡ true → is_marked zones (zone_at s c.leave) ≡ true
  marked_behind c crossing new_router new_zone here =
      let w = through s c crossing in
      let first = and_parts (not (is_marked zones (zone_at s c.enter)) || is_marked routers (router_at s.policy c.enter))
      (not (is_marked routers (router_at s.policy c.enter)) || is_marked zones (zone_at s c.enter) || has (places_on (zone_at s) from path) (zone_at s c.enter)) (kept_at c.enter w.enter new_router) in
      let router : is_marked routers (router_at s.policy c.enter) ≡ true =
      ⊎_elim (λ h. absurd (false≢true (sym (not-true (is_marked zones (zone_at s c.enter)) h) ∙ here))) (λ h. h)
      (or_cases (not (is_marked zones (zone_at s c.enter))) (is_marked routers (router_at s.policy c.enter)) first.0) in
      let second = and_parts (not (is_marked zones (zone_at s c.leave)) || is_marked routers (router_at s.policy c.leave))
      (not (is_marked routers (router_at s.policy c.leave)) || is_marked zones (zone_at s c.leave) || has (places_on (zone_at s) from path) (zone_at s c.leave))
      (kept_at c.leave w.leave (ap (has (routers_on s.policy path)) (sym w.router) ∙ new_router)) in
      let marked : is_marked routers (router_at s.policy c.leave) ≡ true = ap (is_marked routers) (sym w.router) ∙ router in
      ⊎_elim
      (λ h. ⊎_elim (λ g. absurd (false≢true (sym (not-true (is_marked routers (router_at s.policy c.leave)) g) ∙ marked))) (λ g. g)
      (or_cases (not (is_marked routers (router_at s.policy c.leave))) (is_marked zones (zone_at s c.leave)) h))
      (λ h. absurd (false≢true (sym new_zone ∙ h)))
      (or_cases (not (is_marked routers (router_at s.policy c.leave)) || is_marked zones (zone_at s c.leave)) (has (places_on (zone_at s) from path) (zone_at s c.leave)) second.1)

  -- so crossings that the path hasn't passed lead to a marked zone
  marked_at_end : (z : ℕ) (more : List Crossing) → is_marked zones z ≡ true → leads (zone_at s) z more to ≡ true →
      ((c : Crossing) → IsIn c more → is_crossing s c ≡ true) → ((c : Crossing) → IsIn c more → has (routers_on s.policy path) (router_at s.policy c.enter) ≡ false) →
      ((c : Crossing) → IsIn c more → has (places_on (zone_at s) from path) (zone_at s c.leave) ≡ false) → is_marked zones to ≡ true
  marked_at_end z [] here ends crossing new_router new_zone = subst (λ k. is_marked zones k ≡ true) (eqb-true z to ends) here
  marked_at_end z (c ∷ more) here ends crossing new_router new_zone =
      let a = and_parts (zone_at s c.enter == z) (leads (zone_at s) (zone_at s c.leave) more to) ends in
      let enter = subst (λ k. is_marked zones k ≡ true) (sym (eqb-true (zone_at s c.enter) z a.0)) here in
      marked_at_end (zone_at s c.leave) more (marked_behind c (crossing c (inl refl)) (new_router c (inl refl)) (new_zone c (inl refl)) enter) a.1
      (λ d h. crossing d (inr h)) (λ d h. new_router d (inr h)) (λ d h. new_zone d (inr h))

  no_walk : is_marked zones (end_of s from path) ≡ true → is_marked zones to ≡ false → (more : List Crossing) → is_allowed_walk s from to (path ++ more) ≡ true → ⊥
  no_walk end away more walk =
      let w = parts_of s from to (path ++ more) walk in
      let crossing = λ (c : Crossing) (h : IsIn c more). each_in (is_crossing s) more (back_all (is_crossing s) path more w.crossings) c h in
      let places = subst (λ l. are_distinct l ≡ true) (places_append (zone_at s) from path more) w.zones_once in
      let passed = subst (λ l. are_distinct l ≡ true) (routers_append s path more) w.routers_once in
      let new_zone = λ (c : Crossing) (h : IsIn c more). refused (has (places_on (zone_at s) from path) (zone_at s c.leave))
      (λ t. distinct_apart (places_on (zone_at s) from path) (map (λ (d : Crossing). zone_at s d.leave) more) (zone_at s c.leave) places t
      (there (map (λ (d : Crossing). zone_at s d.leave) more) (zone_at s c.leave) (in_map (λ (d : Crossing). zone_at s d.leave) c more h))) in
      let new_router = λ (c : Crossing) (h : IsIn c more). refused (has (routers_on s.policy path) (router_at s.policy c.enter))
      (λ t. distinct_apart (routers_on s.policy path) (routers_on s.policy more) (router_at s.policy c.enter) passed t
      (there (routers_on s.policy more) (router_at s.policy c.enter) (in_map (λ (d : Crossing). router_at s.policy d.enter) c more h))) in
      false≢true (sym away ∙ marked_at_end (end_of s from path) more end (leads_parts s from to path more w.ends).1 crossing new_router new_zone)

  pub nowhere : is_marked zones (end_of s from path) ≡ true → is_marked zones to ≡ false → LeadsNowhere s from to path
  nowhere end away n =
      filter_none (is_allowed_walk s from to) (λ more. path ++ more) (lists_up_to n (all_crossings s)) (λ more. refused (is_allowed_walk s from to (path ++ more)) (no_walk end away more))
