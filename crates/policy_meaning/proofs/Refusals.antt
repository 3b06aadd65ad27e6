-- How the refusals of the layers become lines of the outcome.
use Rattle.std.proofs.Common.{◌≡◌, ℕ, ◌<◌, ◌≤◌, List, map, length, sym, ap, ◌∙◌, ⊎_elim, arith}
use Rattle.std.specs.Prelude.{max, Option, Result, Err}
use Rattle.std.proofs.Math.Nat.{le-max_right}
use Rattle.std.proofs.lemmas.Bool.{false≢true, cases_lt}
use Rattle.spoc_base.specs.declared.place.Source.{Source}
use Rattle.spoc_base.specs.declared.fault.Fault.{Fault}
use Rattle.spoc_base.specs.declared.fault.Refusal.{Refusal}
use Rattle.spoc_base.specs.declared.fault.Refusal.TheVariants as refusal
use Rattle.policy_model.specs.FirstFault.{FaultCase, AreaSplit, NatConflict, NatTwice, NatInside, LimitViews, SamePrefix, HostShadowed, IfaceShadowed, ManagedEnd, LimitPermits, NoPath, HiddenEnd, LimitLines, LimitRoutes, NoHopAddress, AmbiguousHop, most_items}
use Rattle.policy_model.specs.Headline.{Meaning, permits_in}
use Rattle.policy_model.specs.Permits.{listed_denials, listed_permits}
use Rattle.policy_model.specs.Zones.{Site}
use Rattle.topology.specs.First.{HasNone, TellsFirst, IsRefusalOf}
use Rattle.topology.specs.Told.{IsTold}
use Rattle.fault_laws.specs.Cases.{IsFirstCase}
use Rattle.fault_text.specs.Texts.{pair_of, fault_line}
use Rattle.fault_text.specs.Cases.{case_line}
use Rattle.group_expand.specs.Areas.{AreWhole}
use Rattle.policy_outcome.specs.Outcome.{Written, unless}

-- a fault that tells a case is printed as that case
abbrev pub AreThose : Type 0
AreThose = (sources : List Source) (s : Site) (c : FaultCase) (f : Fault) → IsTold sources s c f → fault_line (map pair_of sources) f ≡ case_line s c

-- where the first fault of some rows is told, its line is the outcome
told : AreThose → (sources : List Source) (m : Meaning) (lowest highest : ℕ) (found : Option FaultCase) (fault : Fault) (rest : Result Written (List ℕ)) →
    IsFirstCase m lowest highest found → TellsFirst sources m lowest highest fault → unless found (case_line m.site) rest ≡ Err (fault_line (map pair_of sources) fault)
told those sources m lowest highest found fault rest is tells =
    ap (λ (o : Option FaultCase). unless o (case_line m.site) rest) ((is.first tells.case).0 tells.first) ∙ ap Err (sym (those sources m.site tells.case fault tells.tells))

-- so a refusal that tells it is one whose line is the outcome
pub refused : AreThose → (P : Fault → Type 0) (sources : List Source) (m : Meaning) (lowest highest : ℕ) (found : Option FaultCase) (rest : Result Written (List ℕ)) →
    IsFirstCase m lowest highest found → ((fault : Fault) → P fault → TellsFirst sources m lowest highest fault) → (r : Refusal) → IsRefusalOf P r →
    IsRefusalOf (λ fault. unless found (case_line m.site) rest ≡ Err (fault_line (map pair_of sources) fault)) r
refused those P sources m lowest highest found rest is tells (refusal.Policy fault) h = told those sources m lowest highest found fault rest is (tells fault h)
refused those P sources m lowest highest found rest is tells refusal.Memory h = tt

-- where there is none, the outcome is what comes after
pub clear : (m : Meaning) (lowest highest : ℕ) (found : Option FaultCase) (rest : Result Written (List ℕ)) →
    IsFirstCase m lowest highest found → HasNone m lowest highest → unless found (case_line m.site) rest ≡ rest
clear m lowest highest found rest is none = ap (λ (o : Option FaultCase). unless o (case_line m.site) rest) (is.none.0 none)

-- a refusal whose line is the outcome from some step on, where all steps before it are clear
pub refused_before : (pairs : List (List ℕ × List ℕ)) (before after : Result Written (List ℕ)) → before ≡ after → (r : Refusal) →
    IsRefusalOf (λ fault. after ≡ Err (fault_line pairs fault)) r → IsRefusalOf (λ fault. before ≡ Err (fault_line pairs fault)) r
refused_before pairs before after same (refusal.Policy fault) is = same ∙ is
refused_before pairs before after same refusal.Memory is = tt

-- no more permits than may be
at_most : (n limit : ℕ) → (limit < n → ⊥) → n ≤ limit
at_most n limit bound = ⊎_elim (λ many. absurd (bound many)) (λ few. few) (cases_lt limit n)

pub few : (m : Meaning) → HasNone m 7 8 → length (permits_in m) ≤ most_items
few m none =
    let inner = le-max_right (length (listed_denials m.site m.areas)) (length (permits_in m)) in
    let all = le-max_right (length (listed_permits m.site m.areas)) (max (length (listed_denials m.site m.areas)) (length (permits_in m))) in
    at_most (length (permits_in m)) most_items (λ many. none LimitPermits (record { lower = omega arith; upper = omega arith }) (omega (arith, many, inner, all)))

-- no area is split
pub none_split : (m : Meaning) → AreWhole m.site m.areas → HasNone m 0 0
none_split m whole (AreaSplit k i) w h = false≢true (sym (whole k i h.0) ∙ h.1)
none_split m whole (NatConflict tag z) w h = let u = w.upper in absurd (omega (arith, u))
none_split m whole (NatTwice n z tag other) w h = let u = w.upper in absurd (omega (arith, u))
none_split m whole (NatInside n tag) w h = let u = w.upper in absurd (omega (arith, u))
none_split m whole LimitViews w h = let u = w.upper in absurd (omega (arith, u))
none_split m whole (SamePrefix n other at) w h = let u = w.upper in absurd (omega (arith, u))
none_split m whole (HostShadowed k n at) w h = let u = w.upper in absurd (omega (arith, u))
none_split m whole (IfaceShadowed i shared n at) w h = let u = w.upper in absurd (omega (arith, u))
none_split m whole (ManagedEnd k i) w h = let u = w.upper in absurd (omega (arith, u))
none_split m whole LimitPermits w h = let u = w.upper in absurd (omega (arith, u))
none_split m whole (NoPath u v) w h = let u = w.upper in absurd (omega (arith, u))
none_split m whole (HiddenEnd k src dst n z) w h = let u = w.upper in absurd (omega (arith, u))
none_split m whole LimitLines w h = let u = w.upper in absurd (omega (arith, u))
none_split m whole LimitRoutes w h = let u = w.upper in absurd (omega (arith, u))
none_split m whole (NoHopAddress r n i) w h = let u = w.upper in absurd (omega (arith, u))
none_split m whole (AmbiguousHop r n one two) w h = let u = w.upper in absurd (omega (arith, u))
