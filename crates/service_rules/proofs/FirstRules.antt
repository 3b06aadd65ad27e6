-- Which fault of the services comes first.
use Rattle.std.proofs.Common.{◌≡◌, ◌∙◌, ℕ, ◌<◌, ◌≤◌, Bool, true, false, not, ◌&&◌, ◌||◌, List, length, refl, sym, ap, subst, ⊎_elim, arith}
use Rattle.std.specs.Prelude.{◌==◌, nat_lt, IsTrue, min, Option, Some, None}
use Rattle.std.proofs.lemmas.Bool.{cases_Bool, false≢true, ltb-true, eqb-true, or_cases, and_parts}
use Rattle.spoc_base.specs.declared.place.Source.{Source}
use Rattle.spoc_base.specs.declared.fault.Fault.{Fault}
use Rattle.spoc_base.specs.declared.fault.Fault.TheVariants as fault
use Rattle.spoc_base.specs.declared.ids.IfId.{IfId}
use Rattle.policy_model.specs.Zones.{Site}
use Rattle.policy_model.specs.Permits.{listed_permits, listed_denials, permits_of, permit_count}
use Rattle.policy_model.specs.Headline.{Meaning, permits_in}
use Rattle.policy_model.specs.FirstFault.{FaultCase, AreaSplit, NatConflict, NatTwice, NatInside, LimitViews, SamePrefix, HostShadowed, IfaceShadowed, ManagedEnd, LimitPermits, NoPath, HiddenEnd, LimitLines, LimitRoutes, NoHopAddress, AmbiguousHop, HasFault, is_lower, order_of, most_items}
use Rattle.topology.specs.First.{IsWithin, TellsFirst, HasNone}
use Rattle.topology.specs.Told.{IsTold}
use Rattle.service_rules.specs.Least.{NoneBefore, IsEndAt, IsFirstEnd, service_has_end}
use Rattle.service_rules.specs.Faults.{AreClear, TellsRule}

-- a fact of zones and areas, at a meaning that has these
at_meaning : (P : Site → List (List ℕ) → Type 0) (s : Site) (areas : List (List ℕ)) (m : Meaning) → m.site ≡ s → m.areas ≡ areas → P s areas → P m.site m.areas
at_meaning P s areas m e f h = subst (λ (t : Site). P t m.areas) (sym e) (subst (P s) (sym f) h)

not_before : (k i l j : ℕ) → (k < l → ⊥) → (k ≡ l → i < j → ⊥) → (nat_lt k l || ((k == l) && (nat_lt i j || ((i == j) && false)))) ≡ false
not_before k i l j f g =
    ⊎_elim (λ t. absurd (⊎_elim (λ a. f (ltb-true k l a)) (λ b. let p = and_parts (k == l) (nat_lt i j || ((i == j) && false)) b in
    ⊎_elim (λ c. g (eqb-true k l p.0) (ltb-true i j c)) (λ d. false≢true (sym (never (i == j)) ∙ d)) (or_cases (nat_lt i j) ((i == j) && false) p.1))
    (or_cases (nat_lt k l) ((k == l) && (nat_lt i j || ((i == j) && false))) t)))
    (λ h. h) (cases_Bool (nat_lt k l || ((k == l) && (nat_lt i j || ((i == j) && false)))))
  where
    never : (b : Bool) → (b && false) ≡ false
    never true = refl
    never false = refl

-- ---- none

-- no service has such an end, and there are not too many permits
pub record IsClear (s : Site) (areas : List (List ℕ)) : Type 0 where
  pub ends : NoneBefore s areas (length s.policy.services)
  pub few : permit_count s areas ≤ most_items

module _ (m : Meaning) (is : IsClear m.site m.areas) where
  pub none : HasNone m 7 8
  none (ManagedEnd k i) w h = false≢true (sym (is.ends k i h.0) ∙ h.1)
  none LimitPermits w h = absurd (omega (arith, h, is.few))
  none (AreaSplit k i) w h = absurd (omega (arith, w.lower))
  none (NatConflict tag zone) w h = absurd (omega (arith, w.lower))
  none (NatTwice net zone tag other) w h = absurd (omega (arith, w.lower))
  none (NatInside net tag) w h = absurd (omega (arith, w.lower))
  none LimitViews w h = absurd (omega (arith, w.lower))
  none (SamePrefix net other at) w h = absurd (omega (arith, w.lower))
  none (HostShadowed host net at) w h = absurd (omega (arith, w.lower))
  none (IfaceShadowed iface shared net at) w h = absurd (omega (arith, w.lower))
  none (NoPath src dst) w h = absurd (omega (arith, w.upper))
  none (HiddenEnd permit src dst net zone) w h = absurd (omega (arith, w.upper))
  none LimitLines w h = absurd (omega (arith, w.upper))
  none LimitRoutes w h = absurd (omega (arith, w.upper))
  none (NoHopAddress router net iface) w h = absurd (omega (arith, w.upper))
  none (AmbiguousHop router net one two) w h = absurd (omega (arith, w.upper))

pub clear : (s : Site) (areas : List (List ℕ)) → IsClear s areas → AreClear s areas
clear s areas is m e f = none m (at_meaning IsClear s areas m e f is)

-- ---- an end of a managed router

module _ (m : Meaning) (k : ℕ) (i : IfId) (at : IsEndAt m.site m.areas k i) where
  lower : (l j : ℕ) → l ≡ k → j < i.0 → service_has_end m.site m.areas l j ≡ true → ⊥
  lower l j e h t = false≢true (sym (at.least.first j h) ∙ subst (λ (x : ℕ). service_has_end m.site m.areas x j ≡ true) e t)

  pub first_end : (g : FaultCase) → IsWithin 7 8 g → HasFault m g → IsTrue (not (is_lower (order_of (permits_in m) g) (order_of (permits_in m) (ManagedEnd k i.0))))
  first_end (ManagedEnd l j) w h = ap not (not_before l j k i.0 (λ low. false≢true (sym (at.before l j low) ∙ h.1)) (λ same low. lower l j same low h.1))
  first_end LimitPermits w h = refl
  first_end (AreaSplit l j) w h = absurd (omega (arith, w.lower))
  first_end (NatConflict tag zone) w h = absurd (omega (arith, w.lower))
  first_end (NatTwice net zone tag other) w h = absurd (omega (arith, w.lower))
  first_end (NatInside net tag) w h = absurd (omega (arith, w.lower))
  first_end LimitViews w h = absurd (omega (arith, w.lower))
  first_end (SamePrefix net other place) w h = absurd (omega (arith, w.lower))
  first_end (HostShadowed host net place) w h = absurd (omega (arith, w.lower))
  first_end (IfaceShadowed iface shared net place) w h = absurd (omega (arith, w.lower))
  first_end (NoPath src dst) w h = absurd (omega (arith, w.upper))
  first_end (HiddenEnd permit src dst net zone) w h = absurd (omega (arith, w.upper))
  first_end LimitLines w h = absurd (omega (arith, w.upper))
  first_end LimitRoutes w h = absurd (omega (arith, w.upper))
  first_end (NoHopAddress router net iface) w h = absurd (omega (arith, w.upper))
  first_end (AmbiguousHop router net one two) w h = absurd (omega (arith, w.upper))

pub record IsEndTold (sources : List Source) (k : ℕ) (i : IfId) (told : Fault) (s : Site) (areas : List (List ℕ)) : Type 0 where
  pub at : IsEndAt s areas k i
  pub tells : IsTold sources s (ManagedEnd k i.0) told

tells_at : (sources : List Source) (k : ℕ) (i : IfId) (told : Fault) (m : Meaning) → IsEndTold sources k i told m.site m.areas → TellsFirst sources m 7 8 told
tells_at sources k i told m is =
    record {
      case = ManagedEnd k i.0;
      first = record {
        within = record { lower = omega arith; upper = omega arith };
        there = (is.at.there, is.at.least.passes);
        first = first_end m k i is.at;
      };
      tells = is.tells;
    }

pub tells_end : (sources : List Source) (k : ℕ) (i : IfId) (told : Fault) (s : Site) (areas : List (List ℕ)) → IsEndTold sources k i told s areas → TellsRule sources s areas told
tells_end sources k i told s areas is m e f = tells_at sources k i told m (at_meaning (IsEndTold sources k i told) s areas m e f is)

-- ---- too many permits

pub record IsTooMuch (s : Site) (areas : List (List ℕ)) : Type 0 where
  pub ends : NoneBefore s areas (length s.policy.services)
  pub many : most_items < permit_count s areas

module _ (m : Meaning) (is : IsTooMuch m.site m.areas) where
  pub first_limit : (g : FaultCase) → IsWithin 7 8 g → HasFault m g → IsTrue (not (is_lower (order_of (permits_in m) g) (order_of (permits_in m) LimitPermits)))
  first_limit (ManagedEnd l j) w h = absurd (false≢true (sym (is.ends l j h.0) ∙ h.1))
  first_limit LimitPermits w h = refl
  first_limit (AreaSplit l j) w h = absurd (omega (arith, w.lower))
  first_limit (NatConflict tag zone) w h = absurd (omega (arith, w.lower))
  first_limit (NatTwice net zone tag other) w h = absurd (omega (arith, w.lower))
  first_limit (NatInside net tag) w h = absurd (omega (arith, w.lower))
  first_limit LimitViews w h = absurd (omega (arith, w.lower))
  first_limit (SamePrefix net other place) w h = absurd (omega (arith, w.lower))
  first_limit (HostShadowed host net place) w h = absurd (omega (arith, w.lower))
  first_limit (IfaceShadowed iface shared net place) w h = absurd (omega (arith, w.lower))
  first_limit (NoPath src dst) w h = absurd (omega (arith, w.upper))
  first_limit (HiddenEnd permit src dst net zone) w h = absurd (omega (arith, w.upper))
  first_limit LimitLines w h = absurd (omega (arith, w.upper))
  first_limit LimitRoutes w h = absurd (omega (arith, w.upper))
  first_limit (NoHopAddress router net iface) w h = absurd (omega (arith, w.upper))
  first_limit (AmbiguousHop router net one two) w h = absurd (omega (arith, w.upper))

limit_at : (sources : List Source) (m : Meaning) → IsTooMuch m.site m.areas → TellsFirst sources m 7 8 fault.LimitPermits
limit_at sources m is =
    record {
      case = LimitPermits;
      first = record { within = record { lower = omega arith; upper = omega arith }; there = is.many; first = first_limit m is };
      tells = tt;
    }

pub tells_limit : (sources : List Source) (s : Site) (areas : List (List ℕ)) → IsTooMuch s areas → TellsRule sources s areas fault.LimitPermits
tells_limit sources s areas is m e f = limit_at sources m (at_meaning IsTooMuch s areas m e f is)

-- ---- counts

pub counted_over : (n most count limit : ℕ) → count ≡ min n most → limit < count → limit < n
counted_over n most count limit e h = omega (arith, e, h)

pub counted_under : (n most count limit : ℕ) → count ≡ min n most → limit < most → count ≤ limit → n ≤ limit
counted_under n most count limit e h g = omega (arith, e, h, g)

pub end_at : (s : Site) (areas : List (List ℕ)) (found : Option (ℕ × IfId)) (k : ℕ) (i : IfId) → found ≡ Some (k, i) → IsFirstEnd s areas found → IsEndAt s areas k i
end_at s areas found k i e is = subst (IsFirstEnd s areas) e is

pub no_end : (s : Site) (areas : List (List ℕ)) (found : Option (ℕ × IfId)) → found ≡ None → IsFirstEnd s areas found → NoneBefore s areas (length s.policy.services)
no_end s areas found e is = subst (IsFirstEnd s areas) e is
