-- Which fault comes first of addresses that lie at other networks.
use Rattle.std.proofs.Common.{◌≡◌, ℕ, ◌<◌, ◌≤◌, Bool, true, false, not, cond, List, [], ◌∷◌, ◌++◌, length, refl, sym, ap, subst, ⊎_elim, arith}
use Rattle.std.specs.Prelude.{◌==◌, ◌&&◌, ◌||◌, nat_lt, IsTrue}
use Rattle.std.proofs.lemmas.Bool.{cases_Bool, cases_lt, eqb-true, ltb-true, lt-ltb, or_left, false≢true}
use Rattle.spoc_base.specs.declared.place.Source.{Source}
use Rattle.spoc_base.specs.declared.fault.Fault.{Fault}
use Rattle.policy_model.specs.Policy.{Policy, host_of}
use Rattle.policy_model.specs.Zones.{Site, zone_count}
use Rattle.policy_model.specs.Tags.{Views}
use Rattle.policy_model.specs.Faults.{IsShadowed}
use Rattle.policy_model.specs.Headline.{Meaning, permits_in}
use Rattle.policy_model.specs.FirstFault.{FaultCase, AreaSplit, NatConflict, NatTwice, NatInside, LimitViews, SamePrefix, HostShadowed, IfaceShadowed, ManagedEnd, LimitPermits, NoPath, HiddenEnd, LimitLines, LimitRoutes, NoHopAddress, AmbiguousHop, ViewPlace, AtZone, AtRouter, view_at, is_there, place_order, HasFault, IsIfaceShadowed, is_lower, order_of}
use Rattle.topology.specs.First.{IsWithin, TellsFirst, HasNone as HasNoFault}
use Rattle.topology.specs.Told.{IsTold}
use Rattle.nat_view.specs.Seen.{has_view}
use Rattle.shadow_checks.specs.Holders.{IsFirstHost, IsFirstIface, HasNoneHere}
use Rattle.shadow_checks.specs.Sightings.{HasNone, IsFirst, case_of}
use Rattle.shadow_checks.specs.declared.here.Holder.{Holder}
use Rattle.shadow_checks.specs.declared.here.Holder.TheVariants.{Host, Iface}

-- ---- the order of words

not_or : (a b c : Bool) → a ≡ false → (b ≡ true → not c ≡ true) → not (a || (b && c)) ≡ true
not_or true b c e f = absurd (false≢true (sym e))
not_or false true c e f = f refl
not_or false false c e f = refl

not_less : (x y : ℕ) → y ≤ x → nat_lt x y ≡ false
not_less x y h = ⊎_elim (λ t. let less = ltb-true x y t in absurd (omega (arith, less, h))) (λ f. f) (cases_Bool (nat_lt x y))

not_before : (x y : ℕ) (xs ys : List ℕ) → y ≤ x → (x ≡ y → not (is_lower xs ys) ≡ true) → not (is_lower (x ∷ xs) (y ∷ ys)) ≡ true
not_before x y xs ys low same = not_or (nat_lt x y) (x == y) (is_lower xs ys) (not_less x y low) (λ e. same (eqb-true x y e))

one_before : (x y : ℕ) → x < y → is_lower (x ∷ []) (y ∷ []) ≡ true
one_before x y h = or_left (nat_lt x y) ((x == y) && false) (lt-ltb x y h)

-- a place that isn't before another, or is the same one
by_place : (other at : ViewPlace) (xs ys : List ℕ) → (is_lower (place_order other) (place_order at) ≡ true → ⊥) → (other ≡ at → not (is_lower xs ys) ≡ true) →
    not (is_lower (6 ∷ (place_order other ++ xs)) (6 ∷ (place_order at ++ ys))) ≡ true
by_place (AtZone z) (AtZone y) xs ys late same = not_before z y xs ys (⊎_elim (λ less. absurd (late (one_before z y less))) (λ high. high) (cases_lt z y)) (λ e. same (ap AtZone e))
by_place (AtZone z) (AtRouter r) xs ys late same = absurd (late refl)
by_place (AtRouter r) (AtZone z) xs ys late same = refl
by_place (AtRouter r) (AtRouter t) xs ys late same = not_before r t xs ys (⊎_elim (λ less. absurd (late (one_before r t less))) (λ high. high) (cases_lt r t)) (λ e. same (ap AtRouter e))

by_numbers : (kind n k m l : ℕ) → m ≤ n → (n ≡ m → l ≤ k) → not (is_lower (kind ∷ n ∷ k ∷ []) (kind ∷ m ∷ l ∷ [])) ≡ true
by_numbers kind n k m l low least =
    not_before kind kind (n ∷ k ∷ []) (m ∷ l ∷ []) (omega arith) (λ _. not_before n m (k ∷ []) (l ∷ []) low (λ e. not_before k l [] [] (least e) (λ _. refl)))

-- whether the address is the shared one, as a number
abbrev kind_of : Bool → ℕ
kind_of shared = cond shared 1 0

one_kind : (a b : Bool) → kind_of a ≡ kind_of b → a ≡ b
one_kind true true e = refl
one_kind true false e = absurd (omega (arith, e))
one_kind false true e = absurd (omega (arith, e))
one_kind false false e = refl

own_first : (a b : Bool) → (b ≡ true → a ≡ false → ⊥) → kind_of b ≤ kind_of a
own_first true true h = omega arith
own_first true false h = omega arith
own_first false true h = absurd (h refl refl)
own_first false false h = omega arith

by_addresses : (n s k m t l : ℕ) → m ≤ n → (n ≡ m → t ≤ s) → (n ≡ m → s ≡ t → l ≤ k) → not (is_lower (1 ∷ n ∷ s ∷ k ∷ []) (1 ∷ m ∷ t ∷ l ∷ [])) ≡ true
by_addresses n s k m t l low kind least =
    not_before 1 1 (n ∷ s ∷ k ∷ []) (m ∷ t ∷ l ∷ []) (omega arith)
    (λ _. not_before n m (s ∷ k ∷ []) (t ∷ l ∷ []) low (λ e. not_before s t (k ∷ []) (l ∷ []) (kind e) (λ g. not_before k l [] [] (least e g) (λ _. refl))))

-- ---- the row

by_row : (C : FaultCase → Type 0) → ((host net : ℕ) (at : ViewPlace) → C (HostShadowed host net at)) → ((iface : ℕ) (shared : Bool) (net : ℕ) (at : ViewPlace) → C (IfaceShadowed iface shared net at)) →
    (f : FaultCase) → IsWithin 6 6 f → C f
by_row C one two (AreaSplit a b) w = absurd (omega (arith, w.lower))
by_row C one two (NatConflict t z) w = absurd (omega (arith, w.lower))
by_row C one two (NatTwice n z t o) w = absurd (omega (arith, w.lower))
by_row C one two (NatInside n t) w = absurd (omega (arith, w.lower))
by_row C one two LimitViews w = absurd (omega (arith, w.lower))
by_row C one two (SamePrefix n o a) w = absurd (omega (arith, w.lower))
by_row C one two (HostShadowed h n a) w = one h n a
by_row C one two (IfaceShadowed i s n a) w = two i s n a
by_row C one two (ManagedEnd s i) w = absurd (omega (arith, w.upper))
by_row C one two LimitPermits w = absurd (omega (arith, w.upper))
by_row C one two (NoPath a b) w = absurd (omega (arith, w.upper))
by_row C one two (HiddenEnd p u v n z) w = absurd (omega (arith, w.upper))
by_row C one two LimitLines w = absurd (omega (arith, w.upper))
by_row C one two LimitRoutes w = absurd (omega (arith, w.upper))
by_row C one two (NoHopAddress r n i) w = absurd (omega (arith, w.upper))
by_row C one two (AmbiguousHop r n a b) w = absurd (omega (arith, w.upper))

-- a meaning at the same site and views
pub at_meaning : (Q : Meaning → Type 0) (s : Site) (v : Views) → ((areas : List (List ℕ)) → Q (record { site = s; views = v; areas = areas })) → (m : Meaning) → m.site ≡ s → m.views ≡ v → Q m
at_meaning Q s v f m e g =
    subst (λ (x : Site). Q (record { site = x; views = m.views; areas = m.areas })) (sym e)
    (subst (λ (w : Views). Q (record { site = s; views = w; areas = m.areas })) (sym g) (f m.areas))

module _ (s : Site) (v : Views) (zones : zone_count s ≡ length v.zones) (routers : length v.routers ≡ length s.policy.routers) (areas : List (List ℕ)) where
  abbrev p : Policy
  p = s.policy

  abbrev m : Meaning
  m = record { site = s; views = v; areas = areas }

  viewed_of : (at : ViewPlace) → IsTrue (is_there s at) → IsTrue (has_view v at)
  viewed_of (AtZone z) h = subst (λ (n : ℕ). IsTrue (nat_lt z n)) zones h
  viewed_of (AtRouter r) h = subst (λ (n : ℕ). IsTrue (nat_lt r n)) (sym routers) h

  there_of : (at : ViewPlace) → IsTrue (has_view v at) → IsTrue (is_there s at)
  there_of (AtZone z) h = subst (λ (n : ℕ). IsTrue (nat_lt z n)) (sym zones) h
  there_of (AtRouter r) h = subst (λ (n : ℕ). IsTrue (nat_lt r n)) routers h

  pub no_fault : HasNone p v → HasNoFault m 6 6
  no_fault none f within =
      by_row (λ g. HasFault m g → ⊥) (λ h n at w. (none at (viewed_of at w.1)).hosts h w.0 n w.2) (λ i shared n at w. (none at (viewed_of at w.1)).ifaces i w.0 shared n w.2) f within

  module _ (at : ViewPlace) (before : (other : ViewPlace) → IsTrue (has_view v other) → IsTrue (is_lower (place_order other) (place_order at)) → HasNoneHere p (view_at v other)) where
    host_late : (h n : ℕ) (other : ViewPlace) → HasFault m (HostShadowed h n other) → is_lower (place_order other) (place_order at) ≡ true → ⊥
    host_late h n other w low = (before other (viewed_of other w.1) low).hosts h w.0 n w.2

    iface_late : (i : ℕ) (shared : Bool) (n : ℕ) (other : ViewPlace) → HasFault m (IfaceShadowed i shared n other) → is_lower (place_order other) (place_order at) ≡ true → ⊥
    iface_late i shared n other w low = (before other (viewed_of other w.1) low).ifaces i w.0 shared n w.2

    module _ (h l : ℕ) (here : IsFirstHost p (view_at v at) h l) where
      after_host : (k n : ℕ) (other : ViewPlace) → HasFault m (HostShadowed k n other) →
          not (is_lower (order_of (permits_in m) (HostShadowed k n other)) (order_of (permits_in m) (HostShadowed h l at))) ≡ true
      after_host k n other w =
          by_place other at (0 ∷ k ∷ n ∷ []) (0 ∷ h ∷ l ∷ []) (host_late k n other w)
          (λ e. let same = subst (λ (x : ViewPlace). HasFault m (HostShadowed k n x)) e w in
          by_numbers 0 k n h l (⊎_elim (λ less. absurd (here.before k less n same.2)) (λ high. high) (cases_lt k h))
          (λ g. here.least.least n (subst (λ (x : ℕ). IsShadowed p (view_at v at) (host_of p x).net (host_of p x).range n) g same.2)))

      host_first : (g : FaultCase) → IsWithin 6 6 g → HasFault m g → IsTrue (not (is_lower (order_of (permits_in m) g) (order_of (permits_in m) (HostShadowed h l at))))
      host_first =
          by_row (λ g. HasFault m g → IsTrue (not (is_lower (order_of (permits_in m) g) (order_of (permits_in m) (HostShadowed h l at))))) after_host
          (λ i shared n other w. by_place other at (1 ∷ i ∷ kind_of shared ∷ n ∷ []) (0 ∷ h ∷ l ∷ []) (iface_late i shared n other w) (λ e. refl))

    module _ (i : ℕ) (kind : Bool) (l : ℕ) (here : IsFirstIface p (view_at v at) i kind l) where
      after_iface : (k : ℕ) (shared : Bool) (n : ℕ) (other : ViewPlace) → HasFault m (IfaceShadowed k shared n other) →
          not (is_lower (order_of (permits_in m) (IfaceShadowed k shared n other)) (order_of (permits_in m) (IfaceShadowed i kind l at))) ≡ true
      after_iface k shared n other w =
          by_place other at (1 ∷ k ∷ kind_of shared ∷ n ∷ []) (1 ∷ i ∷ kind_of kind ∷ l ∷ []) (iface_late k shared n other w)
          (λ e.
          let same = subst (λ (x : ViewPlace). HasFault m (IfaceShadowed k shared n x)) e w in
          let shadowed : IsIfaceShadowed p (view_at v at) k shared n = same.2 in
          by_addresses k (kind_of shared) n i (kind_of kind) l (⊎_elim (λ less. absurd (here.before k less shared n shadowed)) (λ high. high) (cases_lt k i))
          (λ g. own_first shared kind (λ last own. here.address.before last n
          (subst (λ (x : ℕ). IsIfaceShadowed p (view_at v at) x false n) g (subst (λ (b : Bool). IsIfaceShadowed p (view_at v at) k b n) own shadowed))))
          (λ g f. here.address.least.least n
          (subst (λ (x : ℕ). IsIfaceShadowed p (view_at v at) x kind n) g (subst (λ (b : Bool). IsIfaceShadowed p (view_at v at) k b n) (one_kind shared kind f) shadowed))))

      iface_first : (g : FaultCase) → IsWithin 6 6 g → HasFault m g → IsTrue (not (is_lower (order_of (permits_in m) g) (order_of (permits_in m) (IfaceShadowed i kind l at))))
      iface_first =
          by_row (λ g. HasFault m g → IsTrue (not (is_lower (order_of (permits_in m) g) (order_of (permits_in m) (IfaceShadowed i kind l at)))))
          (λ h n other w. by_place other at (0 ∷ h ∷ n ∷ []) (1 ∷ i ∷ kind_of kind ∷ l ∷ []) (host_late h n other w)
          (λ e. let same = subst (λ (x : ViewPlace). HasFault m (HostShadowed h n x)) e w in absurd (here.hosts h same.0 n same.2)))
          after_iface

  pub tells_first : (sources : List Source) (at : ViewPlace) (holder : Holder) (l : ℕ) (told : Fault) → IsFirst p v at holder l → IsTold sources s (case_of at holder l) told → TellsFirst sources m 6 6 told
  tells_first sources at (Host h) l told first tells =
      record {
        case = HostShadowed h.0 l at;
        first = record {
          within = record { lower = omega arith; upper = omega arith };
          there = (first.here.there, there_of at first.viewed, first.here.least.there);
          first = host_first at first.before h.0 l first.here;
        };
        tells = tells;
      }
  tells_first sources at (Iface i shared) l told first tells =
      record {
        case = IfaceShadowed i.0 shared l at;
        first = record {
          within = record { lower = omega arith; upper = omega arith };
          there = (first.here.there, there_of at first.viewed, first.here.address.least.there);
          first = iface_first at first.before i.0 shared l first.here;
        };
        tells = tells;
      }
