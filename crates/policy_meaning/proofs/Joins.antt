-- What is told of rows of faults that stand side by side.
use Rattle.std.proofs.Common.{ℕ, ◌+◌, ◌≤◌, List, refl, ap, ◌∙◌, arith}
use Rattle.std.specs.Prelude.{Option}
use Rattle.std.specs.Option.{option_or}
use Rattle.spoc_base.specs.declared.place.Source.{Source}
use Rattle.spoc_base.specs.declared.fault.Fault.{Fault}
use Rattle.policy_model.specs.FirstFault.{FaultCase}
use Rattle.policy_model.specs.Headline.{Meaning}
use Rattle.topology.specs.First.{HasNone, TellsFirst}
use Rattle.fault_laws.specs.Cases.{IsFirstCase, views_case, same_case}
use Rattle.fault_laws.proofs.Joins.{joined}
use Rattle.fault_laws.proofs.EachRow.{views_first, same_first}
use Rattle.shadow_laws.specs.Shadows.{shadow_case}
use Rattle.shadow_laws.proofs.Row.{shadow_first}

module _ (m : Meaning) (lowest middle highest : ℕ) (low : lowest ≤ middle + 1) (high : middle ≤ highest) (found later : Option FaultCase)
    (front : IsFirstCase m lowest middle found) (back : IsFirstCase m (middle + 1) highest later) where
  all : IsFirstCase m lowest highest (option_or found later)
  all = joined m lowest middle highest low high found later front back

  both_none : HasNone m lowest middle → HasNone m (middle + 1) highest → HasNone m lowest highest
  both_none none after = all.none.1 (ap (λ (o : Option FaultCase). option_or o later) (front.none.0 none) ∙ back.none.0 after)

  front_tells : (sources : List Source) (fault : Fault) → TellsFirst sources m lowest middle fault → TellsFirst sources m lowest highest fault
  front_tells sources fault t = record {
    case = t.case;
    first = (all.first t.case).1 (ap (λ (o : Option FaultCase). option_or o later) ((front.first t.case).0 t.first));
    tells = t.tells;
  }

  back_tells : (sources : List Source) (fault : Fault) → HasNone m lowest middle → TellsFirst sources m (middle + 1) highest fault → TellsFirst sources m lowest highest fault
  back_tells sources fault none t = record {
    case = t.case;
    first = (all.first t.case).1 (ap (λ (o : Option FaultCase). option_or o later) (front.none.0 none) ∙ (back.first t.case).0 t.first);
    tells = t.tells;
  }

-- ---- the rows of views: those of too many and of equal prefixes, and that of addresses at other networks

module _ (m : Meaning) where
  before_shadows : IsFirstCase m 4 5 (option_or (views_case m) (same_case m))
  before_shadows = joined m 4 4 5 (omega arith) (omega arith) (views_case m) (same_case m) (views_first m) (same_first m)

  pub no_view_fault : HasNone m 4 5 → HasNone m 6 6 → HasNone m 4 6
  no_view_fault = both_none m 4 5 6 (omega arith) (omega arith) (option_or (views_case m) (same_case m)) (shadow_case m) before_shadows (shadow_first m)

  pub tells_of_views : (sources : List Source) (fault : Fault) → TellsFirst sources m 4 5 fault → TellsFirst sources m 4 6 fault
  tells_of_views = front_tells m 4 5 6 (omega arith) (omega arith) (option_or (views_case m) (same_case m)) (shadow_case m) before_shadows (shadow_first m)

  pub tells_of_shadows : (sources : List Source) (fault : Fault) → HasNone m 4 5 → TellsFirst sources m 6 6 fault → TellsFirst sources m 4 6 fault
  tells_of_shadows = back_tells m 4 5 6 (omega arith) (omega arith) (option_or (views_case m) (same_case m)) (shadow_case m) before_shadows (shadow_first m)
