use Rattle.std.proofs.Common.{◌≡◌, ◌∙◌, ◌≤◌, List, length, map, sym, subst}
use Rattle.std.specs.Prelude.{Err}
use Rattle.std.proofs.lemmas.Result.{IfOk-weaker, IfErr-weaker}
use Rattle.policy_model.specs.FirstFault.{most_items}
use Rattle.policy_model.specs.Headline.{permits_in}
use Rattle.policy_model.specs.Permits.{Permit, permits_of}
use Rattle.topology.specs.First.{IsRefusalOf}
use Rattle.topology.specs.View.{sources_of}
use Rattle.group_expand.specs.Seen.{site_of}
use Rattle.permit_set.specs.Shown.{permit_of}
use Rattle.service_rules.specs.Faults.{AreClear, TellsRule}
use Rattle.fault_laws.proofs.EachRow.{services_first}
use Rattle.fault_text.specs.Texts.{fault_line}
use Rattle.policy_outcome.specs.Outcome.{service_case, after_views, after_services}
use Rattle.policy_outcome.specs.Found.{meaning_in, pairs_in}
use Rattle.policy_meaning.proofs.Refusals.{refused, clear, few}
use Rattle.policy_meaning.proofs.Tables.{both_ok, same_permits}
use Rattle.policy_meaning.proofs.steps.permits_found.Goals as goal

pub returns-clause-are : goal.returns-clause-are
returns-clause-are c =
    IfOk-weaker c.expand.result (λ found. map permit_of found.items ≡ permits_of (site_of c.args.topo c.args.graph.now) c.args.areas.now) (λ found. map permit_of found.items ≡ permits_in (meaning_in c.args.topo))
    (λ found is. is ∙ same_permits c.args.topo c.args.graph.now c.requires.zoned c.args.areas.now c.requires.are) c.expand.ensures.permits

pub returns-clause-few : goal.returns-clause-few
returns-clause-few c =
    let m = meaning_in c.args.topo in
    let s = site_of c.args.topo c.args.graph.now in
    both_ok c.expand.result (λ found. map permit_of found.items ≡ permits_of s c.args.areas.now) (λ found. AreClear s c.args.areas.now) (λ found. length (map permit_of found.items) ≤ most_items)
    (λ found is none. subst (λ (permits : List Permit). length permits ≤ most_items) (sym (is ∙ same_permits c.args.topo c.args.graph.now c.requires.zoned c.args.areas.now c.requires.are))
    (few m (none m (sym c.requires.zoned.site) (sym c.requires.are))))
    c.expand.ensures.permits c.expand.ensures.clear

pub returns-clause-clear : goal.returns-clause-clear
returns-clause-clear c =
    let m = meaning_in c.args.topo in
    let s = site_of c.args.topo c.args.graph.now in
    IfOk-weaker c.expand.result (λ found. AreClear s c.args.areas.now) (λ found. after_views m ≡ after_services m)
    (λ found none. clear m 7 8 (service_case m) (after_services m) (services_first m c.args.topo.kept.sound) (none m (sym c.requires.zoned.site) (sym c.requires.are)))
    c.expand.ensures.clear

pub returns-clause-refused : goal.returns-clause-refused
returns-clause-refused c =
    let m = meaning_in c.args.topo in
    let pairs = pairs_in c.args.topo in
    let tells = TellsRule (sources_of c.args.topo) (site_of c.args.topo c.args.graph.now) c.args.areas.now in
    IfErr-weaker c.expand.result (IsRefusalOf tells) (IsRefusalOf (λ fault. after_views m ≡ Err (fault_line pairs fault)))
    (refused c.told_lines_are_those.ensures tells (sources_of c.args.topo) m 7 8 (service_case m) (after_services m) (services_first m c.args.topo.kept.sound) (λ fault h. h m (sym c.requires.zoned.site) (sym c.requires.are)))
    c.expand.ensures.refused
