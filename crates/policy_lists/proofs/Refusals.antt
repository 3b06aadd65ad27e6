-- How what is told of walks becomes the line of the outcome.
use Rattle.std.proofs.Common.{◌≡◌, ℕ, ◌<◌, ◌≤◌, Bool, true, false, cond, List, map, sym, ap, subst, ◌∙◌, arith}
use Rattle.std.specs.Prelude.{Option, Some, None, Result, Ok, Err, nat_lt}
use Rattle.std.specs.Option.{option_or}
use Rattle.std.proofs.lemmas.Bool.{lt-ltb, le-ltb}
use Rattle.spoc_base.specs.declared.fault.Fault.{Fault}
use Rattle.spoc_base.specs.declared.fault.Fault.TheVariants as fault
use Rattle.spoc_base.specs.declared.fault.Refusal.{Refusal}
use Rattle.spoc_base.specs.declared.fault.Refusal.TheVariants as refusal
use Rattle.spoc_base.specs.declared.place.Source.{Source}
use Rattle.policy_model.specs.FirstFault.{FaultCase, NoPath, HiddenEnd, LimitLines, HasFault, most_items}
use Rattle.policy_model.specs.Headline.{Meaning, permits_in}
use Rattle.policy_model.specs.Permits.{Permit}
use Rattle.policy_model.specs.Tags.{Views}
use Rattle.policy_model.specs.Zones.{Site}
use Rattle.topology.specs.First.{IsWithin, TellsFirst, IsRefusalOf}
use Rattle.topology.specs.Told.{IsTold}
use Rattle.topology.specs.View.{policy_of, sources_of}
use Rattle.topology.specs.declared.topo.Topo.{Topo}
use Rattle.fault_laws.specs.Cases.{IsFirstCase, case_if, path_case, hidden_case, lines_case}
use Rattle.fault_laws.proofs.EachRow.{path_first, hidden_first}
use Rattle.fault_laws.proofs.Joins.{joined}
use Rattle.fault_text.specs.Texts.{pair_of, fault_line}
use Rattle.fault_text.specs.Cases.{case_line}
use Rattle.fault_text.proofs.Told.{told}
use Rattle.meaning_laws.proofs.MeaningThere.{meaning_found}
use Rattle.acl_build.specs.Limit.{RefusesLines}
use Rattle.rule_distribute.specs.Distributed.{HasWalkFault, IsClear, TellsWalk}
use Rattle.policy_outcome.specs.Outcome.{Written, unless, after_services, written_for}
use Rattle.policy_outcome.specs.Found.{meaning_in, pairs_in}
use Rattle.policy_lists.specs.Walking.{path_or_end, line_total}

-- ---- faults of walks are faults of the meaning

as_walk : (m : Meaning) (f : FaultCase) → IsWithin 9 10 f → HasFault m f → HasWalkFault m.site m.views (permits_in m) f
as_walk m (NoPath u w) i h = h
as_walk m (HiddenEnd k u w n z) i h = h
as_walk m f i h = absurd (let a = i.lower in let b = i.upper in omega (arith, a, b))

record IsWalkCase (m : Meaning) (f : FaultCase) : Type 0 where
  pub within : IsWithin 9 10 f
  pub there : HasFault m f

from_walk : (m : Meaning) (f : FaultCase) → HasWalkFault m.site m.views (permits_in m) f → IsWalkCase m f
from_walk m (NoPath u w) h = record { within = record { lower = omega arith; upper = omega arith }; there = h }
from_walk m (HiddenEnd k u w n z) h = record { within = record { lower = omega arith; upper = omega arith }; there = h }
from_walk m f h = absurd h

tells_first : (sources : List Source) (m : Meaning) (told : Fault) → TellsWalk sources m.site m.views (permits_in m) told → TellsFirst sources m 9 10 told
tells_first sources m told tells =
    let walk = from_walk m tells.case tells.there in
    record {
      case = tells.case;
      first = record { within = walk.within; there = walk.there; first = λ g i h. tells.first g (as_walk m g i h) };
      tells = tells.tells;
    }

-- a fact of zones, views and permits, at a meaning that has these
at_meaning : (P : Site → Views → List Permit → Type 0) (s : Site) (v : Views) (permits : List Permit) (m : Meaning) → s ≡ m.site → v ≡ m.views → permits ≡ permits_in m → P s v permits → P m.site m.views (permits_in m)
at_meaning P s v permits m e f g h = subst (λ (t : Site). P t m.views (permits_in m)) e (subst (λ (w : Views). P s w (permits_in m)) f (subst (P s v) g h))

abbrev after : Meaning → Option FaultCase → Result Written (List ℕ)
after m front = unless (option_or front (lines_case m)) (case_line m.site) (Ok (written_for m))

its_outcome : (m : Meaning) → after_services m ≡ after m (path_or_end m)
its_outcome m = λ i. after m (path_or_end m)

module _ (topo : Topo) where
  abbrev m : Meaning
  m = meaning_in topo

  front : IsFirstCase m 9 10 (path_or_end m)
  front =
      joined m 9 9 10 (omega arith) (omega arith) (path_case m) (hidden_case m)
      (path_first m topo.kept.sound (meaning_found (policy_of topo)).zones) (hidden_first m)

  -- ---- too many lines

  lines_told : (b : Bool) → nat_lt most_items (line_total m) ≡ b → lines_case m ≡ case_if b LimitLines
  lines_told b e = ap (λ c. case_if c LimitLines) e

  pub few_lines : path_or_end m ≡ None → line_total m ≤ most_items → after_services m ≡ Ok (written_for m)
  few_lines none few =
      ap (after m) none ∙ ap (λ o. unless o (case_line m.site) (Ok (written_for m))) (lines_told false (le-ltb most_items (line_total m) few))

  many_lines : (f : Fault) → path_or_end m ≡ None → most_items < line_total m → f ≡ fault.LimitLines → after_services m ≡ Err (fault_line (pairs_in topo) f)
  many_lines f none many is =
      ap (after m) none
      ∙ (ap (λ o. unless o (case_line m.site) (Ok (written_for m))) (lines_told true (lt-ltb most_items (line_total m) many))
      ∙ ap Err (sym (told (sources_of topo) m.site LimitLines f (subst (IsTold (sources_of topo) m.site LimitLines) (sym is) tt))))

  pub lines_refused : (r : Refusal) → path_or_end m ≡ None → RefusesLines most_items (line_total m) r → IsRefusalOf (λ f. after_services m ≡ Err (fault_line (pairs_in topo) f)) r
  lines_refused (refusal.Policy f) none h = many_lines f none h.1 h.0
  lines_refused refusal.Memory none h = tt

  -- ---- what is told before

  module _ (s : Site) (v : Views) (permits : List Permit) (site : s ≡ m.site) (views : v ≡ m.views) (expanded : permits ≡ permits_in m) where
    pub walks_clear : IsClear s v permits → path_or_end m ≡ None
    walks_clear is = front.none.0 (λ f i h. at_meaning IsClear s v permits m site views expanded is f (as_walk m f i h))

    walks_told : (f : Fault) → TellsWalk (sources_of topo) s v permits f → after_services m ≡ Err (fault_line (pairs_in topo) f)
    walks_told f tells =
        let first = tells_first (sources_of topo) m f (at_meaning (λ t w qs. TellsWalk (sources_of topo) t w qs f) s v permits m site views expanded tells) in
        ap (after m) ((front.first first.case).0 first.first) ∙ ap Err (sym (told (sources_of topo) m.site first.case f first.tells))

    pub walks_refused : (r : Refusal) → IsRefusalOf (TellsWalk (sources_of topo) s v permits) r → IsRefusalOf (λ f. after_services m ≡ Err (fault_line (pairs_in topo) f)) r
    walks_refused (refusal.Policy f) h = walks_told f h
    walks_refused refusal.Memory h = tt
