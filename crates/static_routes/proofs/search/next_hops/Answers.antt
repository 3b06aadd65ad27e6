use Rattle.std.proofs.Common.{◌∙◌, map}
use Rattle.topology.specs.View.{policy_of}
use Rattle.permit_set.specs.Shown.{permit_of}
use Rattle.path_walk.specs.Seen.{site_of}
use Rattle.static_routes.proofs.Gathered.{gathered, nets_there, ways_named}
use Rattle.static_routes.proofs.search.next_hops.Goals as goal

pub add_all-requires-clause-named : goal.add_all-requires-clause-named
add_all-requires-clause-named c =
    let s = site_of (policy_of c.args.topo) c.args.graph.now in
    let permits = c.args.permits.now in
    ways_named s (map permit_of permits) (nets_there s permits c.requires.nets) c.args.tables.now c.requires.marks c.deref.result.now (c.deref.ensures.value ∙ c.in_ok-ways.ensures)

pub returns : goal.returns
returns c =
    let s = site_of (policy_of c.args.topo) c.args.graph.now in
    let permits = c.args.permits.now in
    gathered s (map permit_of permits) (nets_there s permits c.requires.nets) c.deref.result.now (c.deref.ensures.value ∙ c.in_ok-ways.ensures) c.new-found.result.keys c.add_all.new.found.keys c.new-found.ensures.empty
    c.in_ok-add_all.ensures
