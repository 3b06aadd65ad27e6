-- Where no fault is told of a policy, its tags and its views have none, and the outcome is what is written for it.
use Rattle.std.proofs.Common.{◌≡◌, ◌≤◌, ℕ, Bool, true, false, List, refl, sym}
use Rattle.std.specs.Prelude.{Option, Some, None, nat_lt, Result, Ok}
use Rattle.std.specs.Option.{option_or}
use Rattle.std.proofs.lemmas.Bool.{ltb-false}
use Rattle.std.proofs.lemmas.Option.{none-some}
use Rattle.policy_model.specs.FirstFault.{FaultCase, LimitLines, line_count, most_items}
use Rattle.policy_model.specs.Headline.{Meaning, permits_in}
use Rattle.topology.specs.First.{HasNone}
use Rattle.topology.specs.Sound.{IsSound}
use Rattle.fault_laws.specs.Cases.{split_case, case_if, path_case, hidden_case, lines_case}
use Rattle.fault_laws.proofs.EachRow.{tags_first}
use Rattle.shadow_laws.proofs.Row.{view_faults_first}
use Rattle.fault_text.specs.Cases.{case_line}
use Rattle.policy_outcome.specs.Outcome.{Written, unless, tag_case, view_case, service_case, walk_case, written_for, after_services, after_views, after_tags, after_areas, outcome_for}

-- ---- one fault after the other

past : {A : Type 0} (o : Option A) (line : A → List ℕ) (rest : Result Written (List ℕ)) (written : Written) → unless o line rest ≡ Ok written → (o ≡ None) × (rest ≡ Ok written)
past None line rest written e = (refl, e)
past (Some fault) line rest written e = cc e

-- No fault of tags, views or walks is told of the policy, and the outcome is what is written for it.
pub record IsUntold (m : Meaning) (written : Written) : Type 0 where
  pub tags : tag_case m ≡ None
  pub views : view_case m ≡ None
  pub walks : walk_case m ≡ None
  pub all : written ≡ written_for m

pub untold : (m : Meaning) (written : Written) → outcome_for m ≡ Ok written → IsUntold m written
untold m written e =
    let areas = past (split_case m) (case_line m.site) (after_areas m) written e in
    let tags = past (tag_case m) (case_line m.site) (after_tags m) written areas.1 in
    let views = past (view_case m) (case_line m.site) (after_views m) written tags.1 in
    let services = past (service_case m) (case_line m.site) (after_services m) written views.1 in
    let walks = past (walk_case m) (case_line m.site) (Ok (written_for m)) written services.1 in
    record { tags = tags.0; views = views.0; walks = walks.0; all = cc walks.1 }

-- ---- no fault

pub no_tag_fault : (m : Meaning) → IsSound m.site.policy → tag_case m ≡ None → HasNone m 1 3
no_tag_fault m sound e = (tags_first m sound).none.1 e

pub no_view_fault : (m : Meaning) → view_case m ≡ None → HasNone m 4 6
no_view_fault m e = (view_faults_first m).none.1 e

-- ---- few lines

last_none : {A : Type 0} (first last : Option A) → option_or first last ≡ None → last ≡ None
last_none None last e = e
last_none (Some x) last e = absurd (none-some x (sym e))

no_case : (b : Bool) (f : FaultCase) → case_if b f ≡ None → b ≡ false
no_case false f e = refl
no_case true f e = absurd (none-some f (sym e))

-- there are no more lines than may be, before they are optimised
pub few_lines : (m : Meaning) → walk_case m ≡ None → line_count m.site m.views (permits_in m) ≤ most_items
few_lines m e =
    ltb-false most_items (line_count m.site m.views (permits_in m))
    (no_case (nat_lt most_items (line_count m.site m.views (permits_in m))) LimitLines (last_none (option_or (path_case m) (hidden_case m)) (lines_case m) e))
