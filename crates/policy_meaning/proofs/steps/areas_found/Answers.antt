use Rattle.std.proofs.Common.{◌≡◌, sym}
use Rattle.std.specs.Prelude.{Err}
use Rattle.std.proofs.lemmas.Result.{IfOk-weaker, IfErr-weaker}
use Rattle.policy_model.specs.Objects.{AreAreas}
use Rattle.topology.specs.First.{IsRefusalOf}
use Rattle.topology.specs.View.{sources_of}
use Rattle.group_expand.specs.Seen.{site_of}
use Rattle.group_expand.specs.Areas.{AreWhole, TellsSplit}
use Rattle.fault_laws.specs.Cases.{split_case}
use Rattle.fault_laws.proofs.EachRow.{split_first}
use Rattle.fault_text.specs.Texts.{fault_line}
use Rattle.meaning_laws.proofs.RowsThere.{areas_found}
use Rattle.policy_outcome.specs.Outcome.{outcome_for, after_areas}
use Rattle.policy_outcome.specs.Found.{meaning_in, pairs_in}
use Rattle.policy_meaning.proofs.Refusals.{refused, clear, none_split}
use Rattle.policy_meaning.proofs.Tables.{both_ok, same_areas, whole}
use Rattle.policy_meaning.proofs.steps.areas_found.Goals as goal

pub returns-clause-are : goal.returns-clause-are
returns-clause-are c =
    IfOk-weaker c.areas.result (AreAreas (site_of c.args.topo c.args.graph.now)) (λ areas. areas ≡ (meaning_in c.args.topo).areas)
    (same_areas c.args.topo c.args.graph.now c.requires) c.areas.ensures.areas

pub returns-clause-clear : goal.returns-clause-clear
returns-clause-clear c =
    let m = meaning_in c.args.topo in
    let s = site_of c.args.topo c.args.graph.now in
    both_ok c.areas.result (AreAreas s) (AreWhole s) (λ areas. outcome_for m ≡ after_areas m)
    (λ areas its are. clear m 0 0 (split_case m) (after_areas m) (split_first m c.args.topo.kept.sound) (none_split m (whole c.args.topo c.args.graph.now c.requires areas its are)))
    c.areas.ensures.areas c.areas.ensures.whole

pub returns-clause-refused : goal.returns-clause-refused
returns-clause-refused c =
    let m = meaning_in c.args.topo in
    let pairs = pairs_in c.args.topo in
    let tells = TellsSplit c.args.topo (site_of c.args.topo c.args.graph.now) in
    IfErr-weaker c.areas.result (IsRefusalOf tells) (IsRefusalOf (λ fault. outcome_for m ≡ Err (fault_line pairs fault)))
    (refused c.told_lines_are_those.ensures tells (sources_of c.args.topo) m 0 0 (split_case m) (after_areas m) (split_first m c.args.topo.kept.sound) (λ fault h. h m (sym c.requires.site) (areas_found m.site)))
    c.areas.ensures.split
