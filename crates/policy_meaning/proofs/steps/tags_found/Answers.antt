use Rattle.std.proofs.Common.{◌≡◌, sym}
use Rattle.std.specs.Prelude.{Err}
use Rattle.std.proofs.lemmas.Result.{IfOk-weaker, IfErr-weaker}
use Rattle.spoc_base.specs.declared.fault.Fault.{Fault}
use Rattle.policy_model.specs.Headline.{Meaning}
use Rattle.policy_model.specs.Tags.{Views, AreViews}
use Rattle.topology.specs.First.{HasNone, TellsFirst, IsRefusalOf}
use Rattle.topology.specs.View.{sources_of}
use Rattle.nat_domains.specs.Marks.{site_of}
use Rattle.fault_laws.proofs.EachRow.{tags_first}
use Rattle.fault_text.specs.Texts.{fault_line}
use Rattle.meaning_laws.proofs.RowsThere.{views_found}
use Rattle.policy_outcome.specs.Outcome.{tag_case, after_areas, after_tags}
use Rattle.policy_outcome.specs.Found.{meaning_in, pairs_in}
use Rattle.policy_meaning.proofs.Refusals.{refused, clear}
use Rattle.policy_meaning.proofs.Tables.{same_views}
use Rattle.policy_meaning.proofs.steps.tags_found.Goals as goal

pub returns-clause-are : goal.returns-clause-are
returns-clause-are c =
    IfOk-weaker c.domains.result (AreViews (site_of c.args.topo c.args.graph.now)) (λ tags. tags ≡ (meaning_in c.args.topo).views)
    (same_views c.args.topo c.args.graph.now c.requires) c.domains.ensures.views

pub returns-clause-clear : goal.returns-clause-clear
returns-clause-clear c =
    let m = meaning_in c.args.topo in
    let s = site_of c.args.topo c.args.graph.now in
    IfOk-weaker c.domains.result (λ (tags : Views). (m : Meaning) → m.site ≡ s → AreViews m.site m.views → HasNone m 1 3) (λ tags. after_areas m ≡ after_tags m)
    (λ tags h. clear m 1 3 (tag_case m) (after_tags m) (tags_first m c.args.topo.kept.sound) (h m (sym c.requires.site) (views_found m.site)))
    c.domains.ensures.clear

pub returns-clause-refused : goal.returns-clause-refused
returns-clause-refused c =
    let m = meaning_in c.args.topo in
    let pairs = pairs_in c.args.topo in
    let s = site_of c.args.topo c.args.graph.now in
    let tells = λ (fault : Fault). (m : Meaning) → m.site ≡ s → AreViews m.site m.views → TellsFirst (sources_of c.args.topo) m 1 3 fault in
    IfErr-weaker c.domains.result (IsRefusalOf tells) (IsRefusalOf (λ fault. after_areas m ≡ Err (fault_line pairs fault)))
    (refused c.told_lines_are_those.ensures tells (sources_of c.args.topo) m 1 3 (tag_case m) (after_tags m) (tags_first m c.args.topo.kept.sound) (λ fault h. h m (sym c.requires.site) (views_found m.site)))
    c.domains.ensures.refused
