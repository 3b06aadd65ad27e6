-- The fault that is told is the first of the two rows.
use Rattle.std.proofs.Common.{◌≡◌, ℕ, ◌<◌, ◌≤◌, Bool, true, false, not, ◌&&◌, ◌||◌, List, [], ◌∷◌, ◌++◌, length, refl, sym, ap, subst, ◌∙◌, ⊎_elim, arith}
use Rattle.std.specs.Prelude.{◌==◌, nat_lt, IsTrue}
use Rattle.std.proofs.lemmas.Bool.{eqb-true, ltb-true, lt-ltb, cases_lt, cases_Bool, or_left, false≢true}
use Rattle.spoc_base.specs.declared.place.Source.{Source}
use Rattle.spoc_base.specs.declared.fault.Fault.{Fault}
use Rattle.spoc_base.specs.declared.fault.Fault.TheVariants as fault
use Rattle.policy_model.specs.Zones.{Site, zone_count}
use Rattle.policy_model.specs.Tags.{Views, zone_view, router_view}
use Rattle.policy_model.specs.Faults.{view_count, is_same_prefix}
use Rattle.policy_model.specs.FirstFault.{FaultCase, ViewPlace, AtZone, AtRouter, AreaSplit, NatConflict, NatTwice, NatInside, LimitViews, SamePrefix, HostShadowed, IfaceShadowed, ManagedEnd, LimitPermits, NoPath, HiddenEnd, LimitLines, LimitRoutes, NoHopAddress, AmbiguousHop, HasFault, is_lower, order_of, place_order, view_at, is_there, most_views}
use Rattle.policy_model.specs.Headline.{Meaning, permits_in}
use Rattle.topology.specs.First.{IsWithin, TellsFirst, HasNone}
use Rattle.topology.specs.Told.{IsTold}
use Rattle.nat_view.specs.Seen.{has_view, AreAllApart, AreFirstSame}

-- ---- the order of words

not_or : (a b c : Bool) → a ≡ false → (b ≡ true → not c ≡ true) → not (a || (b && c)) ≡ true
not_or true b c e f = absurd (false≢true (sym e))
not_or false true c e f = f refl
not_or false false c e f = refl

not_less : (x y : ℕ) → y ≤ x → nat_lt x y ≡ false
not_less x y h = ⊎_elim (λ t. let less = ltb-true x y t in absurd (omega (arith, less, h))) (λ f. f) (cases_Bool (nat_lt x y))

not_before : (x y : ℕ) (xs ys : List ℕ) → y ≤ x → (x ≡ y → not (is_lower xs ys) ≡ true) → not (is_lower (x ∷ xs) (y ∷ ys)) ≡ true
not_before x y xs ys low same = not_or (nat_lt x y) (x == y) (is_lower xs ys) (not_less x y low) (λ e. same (eqb-true x y e))

less_last : (x y : ℕ) → x < y → is_lower (x ∷ []) (y ∷ []) ≡ true
less_last x y h = or_left (nat_lt x y) ((x == y) && false) (lt-ltb x y h)

-- ---- the two rows

by_row : (C : FaultCase → Type 0) → C LimitViews → ((net other : ℕ) (at : ViewPlace) → C (SamePrefix net other at)) → (f : FaultCase) → IsWithin 4 5 f → C f
by_row C one two (AreaSplit a b) w = absurd (omega (arith, w.lower))
by_row C one two (NatConflict t z) w = absurd (omega (arith, w.lower))
by_row C one two (NatTwice n z t o) w = absurd (omega (arith, w.lower))
by_row C one two (NatInside n t) w = absurd (omega (arith, w.lower))
by_row C one two LimitViews w = one
by_row C one two (SamePrefix n o a) w = two n o a
by_row C one two (HostShadowed h n a) w = absurd (omega (arith, w.upper))
by_row C one two (IfaceShadowed i s n a) w = absurd (omega (arith, w.upper))
by_row C one two (ManagedEnd s i) w = absurd (omega (arith, w.upper))
by_row C one two LimitPermits w = absurd (omega (arith, w.upper))
by_row C one two (NoPath a b) w = absurd (omega (arith, w.upper))
by_row C one two (HiddenEnd p u v n z) w = absurd (omega (arith, w.upper))
by_row C one two LimitLines w = absurd (omega (arith, w.upper))
by_row C one two LimitRoutes w = absurd (omega (arith, w.upper))
by_row C one two (NoHopAddress r n i) w = absurd (omega (arith, w.upper))
by_row C one two (AmbiguousHop r n a b) w = absurd (omega (arith, w.upper))

-- a meaning at the same zones, with the same views
pub at_views : (Q : Meaning → Type 0) (s : Site) (v : Views) → ((areas : List (List ℕ)) → Q (record { site = s; views = v; areas = areas })) → (m : Meaning) → m.site ≡ s → m.views ≡ v → Q m
at_views Q s v f m e g =
    subst (λ (x : Site). Q (record { site = x; views = m.views; areas = m.areas })) (sym e) (subst (λ (x : Views). Q (record { site = s; views = x; areas = m.areas })) (sym g) (f m.areas))

-- a view of the tables is that of a zone or a router of the policy
pub there_at : (s : Site) (v : Views) → length v.zones ≡ zone_count s → length v.routers ≡ length s.policy.routers → (at : ViewPlace) → IsTrue (has_view v at) → IsTrue (is_there s at)
there_at s v zones routers (AtZone z) h = subst (λ (n : ℕ). nat_lt z n ≡ true) zones h
there_at s v zones routers (AtRouter r) h = subst (λ (n : ℕ). nat_lt r n ≡ true) routers h

viewed : (s : Site) (v : Views) → length v.zones ≡ zone_count s → length v.routers ≡ length s.policy.routers → (at : ViewPlace) → IsTrue (is_there s at) → IsTrue (has_view v at)
viewed s v zones routers (AtZone z) h = subst (λ (n : ℕ). nat_lt z n ≡ true) (sym zones) h
viewed s v zones routers (AtRouter r) h = subst (λ (n : ℕ). nat_lt r n ≡ true) (sym routers) h

module _ (sources : List Source) (s : Site) (v : Views) (areas : List (List ℕ)) where
  abbrev m : Meaning
  m = record { site = s; views = v; areas = areas }

  pub first_limit : most_views < view_count v → TellsFirst sources m 4 5 fault.LimitViews
  first_limit many =
      record {
        case = LimitViews;
        first = record {
          within = record { lower = omega arith; upper = omega arith };
          there = many;
          first = by_row (λ g. HasFault m g → IsTrue (not (is_lower (order_of (permits_in m) g) (order_of (permits_in m) LimitViews)))) (λ h. refl) (λ n o at h. refl);
        };
        tells = tt;
      }

  module _ (zones : length v.zones ≡ zone_count s) (routers : length v.routers ≡ length s.policy.routers) (few : most_views < view_count v → ⊥) where
    pub none_first : AreAllApart s.policy v → HasNone m 4 5
    none_first apart f within = by_row (λ g. HasFault m g → ⊥) few (λ n o at h. apart at (viewed s v zones routers at h.1) n o h.0 h.2) f within

    pub first_same : (at : ViewPlace) (n o : ℕ) (told : Fault) → AreFirstSame s.policy v at n o → IsTold sources s (SamePrefix n o at) told → TellsFirst sources m 4 5 told
    first_same at n o told is tells =
        record {
          case = SamePrefix n o at;
          first = record {
            within = record { lower = omega arith; upper = omega arith };
            there = (is.least.there, there_at s v zones routers at is.viewed, is.least.same);
            first = by_row (λ g. HasFault m g → IsTrue (not (is_lower (order_of (permits_in m) g) (order_of (permits_in m) (SamePrefix n o at)))))
                (λ h. absurd (few h)) (λ k l other h. later other k l (viewed s v zones routers other h.1) h.0 h.2);
          };
          tells = tells;
        }
      where
        -- in one view the least two networks come first
        pair : (k l : ℕ) → l < length s.policy.nets → is_same_prefix s.policy (view_at v at) k l ≡ true → not (is_lower (k ∷ l ∷ []) (n ∷ o ∷ [])) ≡ true
        pair k l below same =
            ⊎_elim (λ less. not_before k n (l ∷ []) (o ∷ []) (omega (arith, less)) (λ e. absurd (omega (arith, less, e))))
            (λ w. not_before k n (l ∷ []) (o ∷ []) (let e = w.0 in omega (arith, e)) (λ e. not_before l o [] [] w.1 (λ g. refl)))
            (is.least.least k l below same)

        later : (other : ViewPlace) (k l : ℕ) → has_view v other ≡ true → l < length s.policy.nets → is_same_prefix s.policy (view_at v other) k l ≡ true →
            not (is_lower (5 ∷ (place_order other ++ k ∷ l ∷ [])) (5 ∷ (place_order at ++ n ∷ o ∷ []))) ≡ true
        later other k l view below same = go at refl other refl
          where
            before : (x : ViewPlace) → other ≡ x → is_lower (place_order x) (place_order at) ≡ true → ⊥
            before x e lower = is.before other view (subst (λ (y : ViewPlace). is_lower (place_order y) (place_order at) ≡ true) (sym e) lower) k l below same

            one_kind : (x y : ℕ) → (x < y → ⊥) → (x ≡ y → view_at v other ≡ view_at v at) → not (is_lower (x ∷ k ∷ l ∷ []) (y ∷ n ∷ o ∷ [])) ≡ true
            one_kind x y none alike =
                not_before x y (k ∷ l ∷ []) (n ∷ o ∷ []) (⊎_elim (λ h. absurd (none h)) (λ h. h) (cases_lt x y))
                (λ e. pair k l below (subst (λ (row : List ℕ). is_same_prefix s.policy row k l ≡ true) (alike e) same))

            go : (y : ViewPlace) → at ≡ y → (x : ViewPlace) → other ≡ x → not (is_lower (5 ∷ (place_order x ++ k ∷ l ∷ [])) (5 ∷ (place_order y ++ n ∷ o ∷ []))) ≡ true
            go (AtZone y) e (AtZone x) f =
                one_kind x y (λ h. before (AtZone x) f (subst (λ (w : ViewPlace). is_lower (0 ∷ x ∷ []) (place_order w) ≡ true) (sym e) (less_last x y h)))
                (λ g. ap (view_at v) f ∙ (ap (zone_view v) g ∙ sym (ap (view_at v) e)))
            go (AtZone y) e (AtRouter x) f = refl
            go (AtRouter y) e (AtZone x) f = absurd (before (AtZone x) f (subst (λ (w : ViewPlace). is_lower (0 ∷ x ∷ []) (place_order w) ≡ true) (sym e) refl))
            go (AtRouter y) e (AtRouter x) f =
                one_kind x y (λ h. before (AtRouter x) f (subst (λ (w : ViewPlace). is_lower (1 ∷ x ∷ []) (place_order w) ≡ true) (sym e) (less_last x y h)))
                (λ g. ap (view_at v) f ∙ (ap (router_view v) g ∙ sym (ap (view_at v) e)))
