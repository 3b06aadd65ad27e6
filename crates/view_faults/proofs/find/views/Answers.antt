use Rattle.std.proofs.Common.{◌∙◌, length, sym, ap, subst, arith}
use Rattle.std.proofs.lemmas.Bool.{false≢true}
use Rattle.std.proofs.lemmas.List.{length-map}
use Rattle.policy_model.specs.Headline.{Meaning}
use Rattle.topology.specs.First.{HasNone, TellsFirst}
use Rattle.topology.specs.Seen.{router_seen}
use Rattle.topology.specs.View.{policy_of, sources_of}
use Rattle.nat_view.specs.Fails.{place_seen, RefusesViews}
use Rattle.view_faults.specs.Sites.{site_of}
use Rattle.view_faults.proofs.Calling.{zone_views, router_views}
use Rattle.view_faults.proofs.Deciding.{at_views, first_limit, first_same, none_first, there_at}
use Rattle.view_faults.proofs.find.views.Goals as goal

pub has_too_many-requires-clause-zones : goal.has_too_many-requires-clause-zones
has_too_many-requires-clause-zones c = c.count-zones.ensures ∙ sym (zone_views (policy_of c.args.topo) c.args.graph.now c.args.tags.now c.requires.graph c.requires.tags)

pub has_too_many-requires-clause-count : goal.has_too_many-requires-clause-count
has_too_many-requires-clause-count c =
    let routers = c.routers.result.now in
    let long = length-map routers (router_seen (sources_of c.args.topo)) in
    let same = ap length c.routers.ensures in
    let zones = zone_views (policy_of c.args.topo) c.args.graph.now c.args.tags.now c.requires.graph c.requires.tags in
    let inner = router_views (site_of c.args.topo c.args.graph.now) c.args.tags.now c.requires.tags in
    let count = c.count-zones.ensures in
    omega (arith, long, same, zones, inner, count)

pub has_too_many-requires-clause-few : goal.has_too_many-requires-clause-few
has_too_many-requires-clause-few c =
    let inner = router_views (site_of c.args.topo c.args.graph.now) c.args.tags.now c.requires.tags in
    let few = c.args.topo.kept.sound.limited.routers in
    omega (arith, inner, few)

pub view_table-requires-clause-zones : goal.view_table-requires-clause-zones
view_table-requires-clause-zones c = zone_views (policy_of c.args.topo) c.args.graph.now c.args.tags.now c.requires.graph c.requires.tags

pub view_table-requires-clause-routers : goal.view_table-requires-clause-routers
view_table-requires-clause-routers c = router_views (site_of c.args.topo c.args.graph.now) c.args.tags.now c.requires.tags

pub returns-then-branch-clause-refused : goal.returns-then-branch-clause-refused
returns-then-branch-clause-refused c =
    let s = site_of c.args.topo c.args.graph.now in
    at_views (λ (m : Meaning). TellsFirst (sources_of c.args.topo) m 4 5 _) s c.args.tags.now (λ areas. first_limit (sources_of c.args.topo) s c.args.tags.now areas (c.in_ok-has_too_many.ensures.0 c.if-branch.true))

pub same_fault-requires-clause-there : goal.same_fault-requires-clause-there
same_fault-requires-clause-there c =
    let s = site_of c.args.topo c.args.graph.now in
    let told = subst (RefusesViews (policy_of c.args.topo) c.args.tags.now) c.in-Err-Same.field-0-is c.in-Err-Same.ensures.refused in
    there_at s c.args.tags.now c.requires.tags.each (router_views s c.args.tags.now c.requires.tags) (place_seen c.in-Err-Same.at) told.viewed

pub returns-in-Ok-clause-clear : goal.returns-in-Ok-clause-clear
returns-in-Ok-clause-clear c =
    let s = site_of c.args.topo c.args.graph.now in
    let v = c.args.tags.now in
    at_views (λ (m : Meaning). HasNone m 4 5) s v
    (λ areas. none_first (sources_of c.args.topo) s v areas c.requires.tags.each (router_views s v c.requires.tags) (λ many. false≢true (sym c.if-branch.false ∙ c.in_ok-has_too_many.ensures.1 many)) c.in-Ok.ensures.apart)

pub returns-in-Err-Same-clause-refused : goal.returns-in-Err-Same-clause-refused
returns-in-Err-Same-clause-refused c =
    let s = site_of c.args.topo c.args.graph.now in
    let v = c.args.tags.now in
    at_views (λ (m : Meaning). TellsFirst (sources_of c.args.topo) m 4 5 c.same_fault.result) s v
    (λ areas. first_same (sources_of c.args.topo) s v areas c.requires.tags.each (router_views s v c.requires.tags) (λ many. false≢true (sym c.if-branch.false ∙ c.in_ok-has_too_many.ensures.1 many))
    (place_seen c.in-Err-Same.at) c.in-Err-Same.n.0 c.in-Err-Same.m.0 c.same_fault.result (subst (RefusesViews (policy_of c.args.topo) v) c.in-Err-Same.field-0-is c.in-Err-Same.ensures.refused) c.same_fault.ensures)
