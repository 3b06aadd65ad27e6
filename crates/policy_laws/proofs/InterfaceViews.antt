-- The view of a managed interface's zone: what its router sees inside, and the tags that the interface binds.
use Rattle.std.proofs.Common.{◌≡◌, ℕ, ◌<◌, inl, inr, Bool, true, false, not, ◌&&◌, ◌||◌, List, [], ◌∷◌, length, refl, sym, subst, ⊎_elim}
use Rattle.std.specs.Prelude.{◌==◌}
use Rattle.std.specs.List.{list_any, list_all}
use Rattle.std.proofs.lemmas.Bool.{and_from, or_cases, or_left, or_right, eq-eqb, cases_Bool, not_from_false, false_from_ne_true}
use Rattle.policy_model.specs.Lists.{has}
use Rattle.policy_model.specs.Policy.{router_at, is_managed, all_tags, all_ifaces, net_at}
use Rattle.policy_model.specs.Zones.{Site, IsSite, zone_at, zone_count}
use Rattle.policy_model.specs.Tags.{Views, AreViews, IsActive, IsBarred, binds, zone_view, router_view, ifaces_of, inner_tags}
use Rattle.policy_model.specs.Faults.{IsConflicting}
use Rattle.policy_model.proofs.AllWalks.{IsIn, in_filter, in_numbers, managed_is_there}
use Rattle.list_laws.proofs.Members.{some_of, each_in, same_truth}
use Rattle.policy_laws.specs.Routed.{IsWired}
use Rattle.policy_laws.proofs.InnerViews.{IsOf, of_router, zone_below, its_inner_tags, inner_tag, passed_on, keeps_from}

all_of : (test : ℕ → Bool) (xs : List ℕ) → ((x : ℕ) → IsIn x xs → test x ≡ true) → list_all test xs ≡ true
all_of test [] each = refl
all_of test (x ∷ xs) each = and_from (test x) (list_all test xs) (each x (inl refl)) (all_of test xs (λ y h. each y (inr h)))

module _ (s : Site) (v : Views) (site : IsSite s) (views : AreViews s v) (wired : IsWired s.policy) (apart : (tag z : ℕ) → z < zone_count s → IsConflicting s tag z → ⊥) (i : ℕ) (tag : ℕ) (below : i < length s.policy.ifaces) (managed : is_managed s.policy (router_at s.policy i) ≡ true) (there : tag < length s.policy.tags) where
  abbrev r : ℕ
  r = router_at s.policy i

  zone_there : (j : ℕ) → j < length s.policy.ifaces → zone_at s j < zone_count s
  zone_there j h = zone_below s site (net_at s.policy j) (wired.placed j h).0

  its : IsOf s.policy r i
  its = record { below = below; its = refl }

  among : IsIn i (ifaces_of s.policy r)
  among = in_filter (λ k. router_at s.policy k == r) i (all_ifaces s.policy) (in_numbers (length s.policy.ifaces) i below) (eq-eqb r r refl)

  -- a tag that the interface doesn't bind and that is in force in its zone is bound by no other interface of the router
  unbound : binds s.policy i tag ≡ false → IsActive s tag (zone_at s i) → (j : ℕ) → IsIn j (ifaces_of s.policy r) → not (binds s.policy j tag) ≡ true
  unbound free active j h =
      let hj = of_router s.policy r j h in
      not_from_false (binds s.policy j tag) (false_from_ne_true (binds s.policy j tag)
      (λ bound. let barred : IsBarred s tag (zone_at s i) = record {
        iface = i;
        binder = j;
        there = (below, hj.below);
        one_router = sym hj.its;
        unbound = not_from_false (binds s.policy i tag) free;
        bound = bound;
        chain = record { path = []; crossings = refl; ends = eq-eqb (zone_at s i) (zone_at s i) refl };
      } in apart tag (zone_at s i) (zone_there i below) (active, barred)))

  seen_inside : binds s.policy i tag ≡ false → has (zone_view v (zone_at s i)) tag ≡ true → has (router_view v r) tag ≡ true
  seen_inside free seen =
      let p = s.policy in
      let active = (views.active (zone_at s i) tag (zone_there i below)).0 seen in
      let none = all_of (λ j. not (binds p j tag)) (ifaces_of p r) (unbound free active) in
      let some = some_of (λ j. has (zone_view v (zone_at s j)) tag) i (ifaces_of p r) among seen in
      let test = λ (tag : ℕ). list_all (λ j. not (binds p j tag)) (ifaces_of p r) && list_any (λ j. has (zone_view v (zone_at s j)) tag) (ifaces_of p r) in
      let passes : test tag ≡ true = and_from (list_all (λ j. not (binds p j tag)) (ifaces_of p r)) (list_any (λ j. has (zone_view v (zone_at s j)) tag) (ifaces_of p r)) none some in
      let inside : has (inner_tags s v r) tag ≡ true = some_of (λ x. x == tag) tag (inner_tags s v r) (in_filter test tag (all_tags p) (in_numbers (length p.tags) tag there) passes) (eq-eqb tag tag refl) in
      subst (λ (view : List ℕ). has view tag ≡ true) (sym (its_inner_tags s v views r (managed_is_there p r managed))) inside

  seen_from_inside : has (router_view v r) tag ≡ true → has (zone_view v (zone_at s i)) tag ≡ true
  seen_from_inside inside =
      let p = s.policy in
      let w = inner_tag s v r tag (subst (λ (view : List ℕ). has view tag ≡ true) (its_inner_tags s v views r (managed_is_there p r managed)) inside) in
      let j : ℕ = w.iface in
      let hj = of_router p r j w.there in
      let none = each_in (λ (k : ℕ). not (binds p k tag)) (ifaces_of p r) w.unbound in
      let active : IsActive s tag (zone_at s j) = (views.active (zone_at s j) tag (zone_there j hj.below)).0 w.seen in
      (views.active (zone_at s i) tag (zone_there i below)).1 (passed_on s tag j i (keeps_from p r tag j i managed hj its (none j w.there) (none i among)) active)

  seen_where_bound : binds s.policy i tag ≡ true → has (zone_view v (zone_at s i)) tag ≡ true
  seen_where_bound bound =
      (views.active (zone_at s i) tag (zone_there i below)).1
      (record { iface = i; there = below; bound = bound; chain = record { path = []; crossings = refl; ends = eq-eqb (zone_at s i) (zone_at s i) refl } })

  pub its_view : has (zone_view v (zone_at s i)) tag ≡ (has (router_view v r) tag || binds s.policy i tag)
  its_view =
      let inner = has (router_view v r) tag in
      let bound = binds s.policy i tag in
      same_truth (has (zone_view v (zone_at s i)) tag) (inner || bound)
      (λ seen. ⊎_elim (λ b. or_right inner bound b) (λ free. or_left inner bound (seen_inside free seen)) (cases_Bool bound))
      (λ h. ⊎_elim seen_from_inside seen_where_bound (or_cases inner bound h))
