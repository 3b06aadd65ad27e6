use Rattle.std.proofs.Common.{map}
use Rattle.std.proofs.lemmas.Result.{IfOk-weaker, IfErr-weaker}
use Rattle.topology.specs.View.{policy_of}
use Rattle.permit_lines.specs.Given.{site_with}
use Rattle.permit_set.specs.Shown.{permit_of}
use Rattle.nat_view.specs.Views.{seen_of}
use Rattle.policy_outcome.specs.Found.{meaning_in}
use Rattle.policy_lists.proofs.Premises.{zones_sized, are_known}
use Rattle.policy_lists.proofs.Interfaces.{placed_from_start}
use Rattle.policy_lists.proofs.Refusals.{walks_clear, walks_refused}
use Rattle.policy_lists.proofs.places.places_of.Goals as goal

pub join-requires-clause-zones : goal.join-requires-clause-zones
join-requires-clause-zones c =
    let found = c.requires.found in zones_sized (policy_of c.args.viewed.now.topo) c.args.viewed.now.graph.now (seen_of c.args.viewed.now.views.now).views found.zoned.is_graph found.zoned.site found.views

pub join-requires-clause-permits : goal.join-requires-clause-permits
join-requires-clause-permits c = are_known (policy_of c.args.viewed.now.topo) c.args.viewed.now.topo.kept.sound c.requires.shaped (map permit_of c.args.viewed.now.permits.now) c.requires.found.expanded

pub distribute-requires-clause-zones : goal.distribute-requires-clause-zones
distribute-requires-clause-zones c =
    let found = c.requires.found in zones_sized (policy_of c.args.viewed.now.topo) c.args.viewed.now.graph.now (seen_of c.args.viewed.now.views.now).views found.zoned.is_graph found.zoned.site found.views

pub distribute-requires-clause-permits : goal.distribute-requires-clause-permits
distribute-requires-clause-permits c = are_known (policy_of c.args.viewed.now.topo) c.args.viewed.now.topo.kept.sound c.requires.shaped (map permit_of c.args.viewed.now.permits.now) c.requires.found.expanded

pub returns-clause-places : goal.returns-clause-places
returns-clause-places c =
    let found = c.requires.found in
    IfOk-weaker c.distribute.result _ _
    (λ places e. placed_from_start (meaning_in c.args.viewed.now.topo) (site_with (policy_of c.args.viewed.now.topo) c.args.viewed.now.graph.now) (seen_of c.args.viewed.now.views.now).views (map permit_of c.args.viewed.now.permits.now)
    found.zoned.site found.views found.expanded places.items e) c.distribute.ensures.placed

pub returns-clause-clear : goal.returns-clause-clear
returns-clause-clear c =
    let found = c.requires.found in
    IfOk-weaker c.distribute.result _ _
    (λ places. walks_clear c.args.viewed.now.topo (site_with (policy_of c.args.viewed.now.topo) c.args.viewed.now.graph.now) (seen_of c.args.viewed.now.views.now).views
    (map permit_of c.args.viewed.now.permits.now) found.zoned.site found.views found.expanded) c.distribute.ensures.clear

pub returns-clause-refused : goal.returns-clause-refused
returns-clause-refused c =
    let found = c.requires.found in
    IfErr-weaker c.distribute.result _ _
    (walks_refused c.args.viewed.now.topo (site_with (policy_of c.args.viewed.now.topo) c.args.viewed.now.graph.now) (seen_of c.args.viewed.now.views.now).views
    (map permit_of c.args.viewed.now.permits.now) found.zoned.site found.views found.expanded) c.distribute.ensures.refused
