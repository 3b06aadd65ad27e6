use Rattle.std.proofs.Common.{◌≡◌, ◌∙◌, length, sym, ap, subst}
use Rattle.std.proofs.lemmas.Result.{err_from_is_err_and}
use Rattle.spoc_base.specs.declared.fault.Fault.{Fault}
use Rattle.policy_model.specs.Headline.{Meaning}
use Rattle.policy_model.specs.Tags.{Views}
use Rattle.topology.specs.First.{TellsFirst}
use Rattle.topology.specs.View.{policy_of, sources_of}
use Rattle.group_expand.specs.Seen.{site_of}
use Rattle.nat_view.specs.Seen.{AreAllApart}
use Rattle.nat_view.specs.Views.{seen_of}
use Rattle.shadow_laws.proofs.Row.{view_faults_first}
use Rattle.policy_outcome.specs.Outcome.{view_case, after_views}
use Rattle.policy_outcome.specs.Found.{meaning_in}
use Rattle.policy_meaning.proofs.Refusals.{refused, clear}
use Rattle.policy_meaning.proofs.Tables.{are_views, zones_sized, routers_sized}
use Rattle.policy_meaning.proofs.Joins.{no_view_fault, tells_of_views, tells_of_shadows}
use Rattle.policy_meaning.proofs.steps.views_found.Goals as goal

pub views-requires-clause-graph : goal.views-requires-clause-graph
views-requires-clause-graph c = c.requires.zoned.is_graph

pub views-requires-clause-tags : goal.views-requires-clause-tags
views-requires-clause-tags c = are_views c.args.topo c.args.graph.now c.requires.zoned c.args.tags.now c.requires.are

pub returns-in_err-views-clause-refused : goal.returns-in_err-views-clause-refused
returns-in_err-views-clause-refused c =
    let m = meaning_in c.args.topo in
    let s = site_of c.args.topo c.args.graph.now in
    let sources = sources_of c.args.topo in
    let p = err_from_is_err_and c.from_residual.result c.from_residual.ensures.1 in
    rw (p.1, p.2)
    (refused c.told_lines_are_those.ensures (λ (fault : Fault). (m : Meaning) → m.site ≡ s → m.views ≡ c.args.tags.now → TellsFirst sources m 4 5 fault) sources m 4 6 (view_case m) (after_views m)
    (view_faults_first m) (λ fault h. tells_of_views m sources fault (h m (sym c.requires.zoned.site) (sym c.requires.are))) c.in_err-views.field-0.0 c.in_err-views.ensures.refused)

pub refuse_shadowed-requires-clause-graph : goal.refuse_shadowed-requires-clause-graph
refuse_shadowed-requires-clause-graph c = c.requires.zoned.is_graph

pub refuse_shadowed-requires-clause-zones : goal.refuse_shadowed-requires-clause-zones
refuse_shadowed-requires-clause-zones c =
    ap (λ (v : Views). length v.zones) c.in_ok-views.ensures.views
    ∙ zones_sized c.args.topo c.args.graph.now c.requires.zoned c.args.tags.now (are_views c.args.topo c.args.graph.now c.requires.zoned c.args.tags.now c.requires.are)

pub refuse_shadowed-requires-clause-routers : goal.refuse_shadowed-requires-clause-routers
refuse_shadowed-requires-clause-routers c =
    ap (λ (v : Views). length v.routers) c.in_ok-views.ensures.views
    ∙ routers_sized c.args.topo c.args.graph.now c.requires.zoned c.args.tags.now (are_views c.args.topo c.args.graph.now c.requires.zoned c.args.tags.now c.requires.are)

pub refuse_shadowed-requires-clause-apart : goal.refuse_shadowed-requires-clause-apart
refuse_shadowed-requires-clause-apart c = subst (λ (v : Views). AreAllApart (policy_of c.args.topo) v) (sym c.in_ok-views.ensures.views) c.in_ok-views.ensures.apart

pub returns-in_err-refuse_shadowed-clause-refused : goal.returns-in_err-refuse_shadowed-clause-refused
returns-in_err-refuse_shadowed-clause-refused c =
    let m = meaning_in c.args.topo in
    let s = site_of c.args.topo c.args.graph.now in
    let sources = sources_of c.args.topo in
    let site = sym c.requires.zoned.site in
    let none = c.in_ok-views.ensures.clear m site (sym c.requires.are) in
    let p = err_from_is_err_and c.from_residual-in_err-refuse_shadowed.result c.from_residual-in_err-refuse_shadowed.ensures.1 in
    rw (p.1, p.2)
    (refused c.told_lines_are_those.ensures (λ (fault : Fault). (m : Meaning) → m.site ≡ s → m.views ≡ (seen_of c.in_ok-views.views).views → TellsFirst sources m 6 6 fault) sources m 4 6 (view_case m)
    (after_views m) (view_faults_first m) (λ fault h. tells_of_shadows m sources fault none (h m site (sym (c.in_ok-views.ensures.views ∙ c.requires.are))))
    c.in_err-refuse_shadowed.field-0.0 c.in_err-refuse_shadowed.ensures.refused)

pub returns-clause-are : goal.returns-clause-are
returns-clause-are c = c.in_ok-views.ensures.views ∙ c.requires.are

pub returns-clause-clear : goal.returns-clause-clear
returns-clause-clear c =
    let m = meaning_in c.args.topo in
    let site = sym c.requires.zoned.site in
    clear m 4 6 (view_case m) (after_views m) (view_faults_first m)
    (no_view_fault m (c.in_ok-views.ensures.clear m site (sym c.requires.are)) (c.in_ok-refuse_shadowed.ensures.clear m site (sym (c.in_ok-views.ensures.views ∙ c.requires.are))))
