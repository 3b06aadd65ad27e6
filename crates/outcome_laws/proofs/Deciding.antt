-- What is written for a policy of which no fault is told decides exactly.
use Rattle.std.proofs.Common.{◌≡◌, ℕ, subst, arith}
use Rattle.std.specs.Prelude.{Ok}
use Rattle.std.proofs.lemmas.Bool.{false_from_ne_true}
use Rattle.policy_model.specs.Policy.{Policy}
use Rattle.policy_model.specs.Faults.{is_translated_inside}
use Rattle.policy_model.specs.FirstFault.{NatInside}
use Rattle.policy_model.specs.Passing.{Config}
use Rattle.policy_model.specs.Headline.{Meaning, IsMeaning, permits_in}
use Rattle.policy_laws.specs.Routed.{IsWired}
use Rattle.policy_laws.specs.Shaped.{IsShaped}
use Rattle.topology.specs.Sound.{IsSound}
use Rattle.meaning_laws.specs.Tables.{meaning_of}
use Rattle.meaning_laws.proofs.MeaningThere.{meaning_found}
use Rattle.policy_laws.proofs.Shapes.{secured}
use Rattle.shadow_laws.proofs.Distinct.{distinct_prefixes}
use Rattle.shape_laws.proofs.Lists.{list_there, lists_by_router_pass}
use Rattle.policy_outcome.specs.Files.{config_for}
use Rattle.policy_outcome.specs.Outcome.{Written, lists_for, written_for, outcome_for}
use Rattle.policy_outcome.specs.Exact.{DecidesExactly, configs_for}
use Rattle.outcome_laws.proofs.Listed.{own_written, lists_written, written_decide}
use Rattle.outcome_laws.proofs.Untold.{IsUntold, untold, no_tag_fault, no_view_fault}
use Rattle.outcome_laws.proofs.Direct.{send_direct}

decides_own : (m : Meaning) (written : Written) → IsUntold m written → IsMeaning m.site.policy m → IsSound m.site.policy → IsShaped m.site.policy → IsWired m.site.policy →
    DecidesExactly m.site.policy (configs_for m)
decides_own m written told its sound shaped wired =
    let config : ℕ → Config = config_for m.site.policy (lists_for m) in
    let none = no_view_fault m told.views in
    let tags = no_tag_fault m sound told.tags in
    let distinct = distinct_prefixes m.site.policy m its sound tags none in
    let safe = secured m.site m.areas shaped m.views distinct in
    let pass = lists_by_router_pass m.site.policy m config (own_written m) its shaped distinct (λ i below managed. written_decide m safe i below) (lists_written m) in
    record {
      meaning = m;
      is_its = its;
      inside = λ n tag below. false_from_ne_true (is_translated_inside m.site m.views n tag) (λ t. tags (NatInside n tag) (record { lower = omega arith; upper = omega arith }) (below, t));
      walks = pass.0;
      devices = pass.1;
      entering = pass.2;
      lists = list_there m.site.policy config (own_written m) (lists_written m);
      direct = send_direct m its shaped wired distinct none;
    }

-- so it is with a policy that has the meaning
decides : (p : Policy) (m : Meaning) (written : Written) → IsMeaning p m → IsSound p → IsShaped p → IsWired p → IsUntold m written → DecidesExactly p (configs_for m)
decides p m written its sound shaped wired told =
    subst (λ (q : Policy). IsMeaning q m → IsSound q → IsShaped q → IsWired q → DecidesExactly q (configs_for m)) its.policy (decides_own m written told) its sound shaped wired

accepted : (p : Policy) (m : Meaning) (written : Written) → IsMeaning p m → IsSound p → IsShaped p → IsWired p → outcome_for m ≡ Ok written →
    (written ≡ written_for m) × DecidesExactly p (configs_for m)
accepted p m written its sound shaped wired e = let told = untold m written e in (told.all, decides p m written its sound shaped wired told)

pub accepted_decide : (p : Policy) (written : Written) → IsSound p → IsShaped p → IsWired p → outcome_for (meaning_of p) ≡ Ok written →
    (written ≡ written_for (meaning_of p)) × DecidesExactly p (configs_for (meaning_of p))
accepted_decide p written = accepted p (meaning_of p) written (meaning_found p)
