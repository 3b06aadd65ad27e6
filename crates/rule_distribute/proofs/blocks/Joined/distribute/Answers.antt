use Rattle.std.proofs.Common.{◌∙◌, ◌<◌, length, map, subst, sym, arith}
use Rattle.std.proofs.lemmas.List.{length-map}
use Rattle.policy_model.specs.FirstFault.{HiddenEnd}
use Rattle.policy_model.specs.Permits.{Permit}
use Rattle.topology.specs.Told.{IsTold}
use Rattle.topology.specs.View.{policy_of, sources_of}
use Rattle.nat_view.specs.Views.{seen_of}
use Rattle.permit_set.specs.Shown.{permit_of}
use Rattle.permit_lines.specs.Given.{site_with}
use Rattle.rule_distribute.specs.Hidden.{end_net}
use Rattle.rule_distribute.specs.Paths.{zones_named, AreNamed}
use Rattle.rule_distribute.specs.Shown.{pairs_seen}
use Rattle.rule_distribute.proofs.AllConcerned.{zones_counted}
use Rattle.rule_distribute.proofs.Ends.{at_place}
use Rattle.rule_distribute.proofs.FirstWalk.{clear, tells_path, tells_hidden}
use Rattle.rule_distribute.proofs.Joining.{have_rows, are_named, have_tables}
use Rattle.rule_distribute.proofs.Walkless.{none_without, first_without, lacking_there}
use Rattle.rule_distribute.proofs.blocks.Joined.distribute.Goals as goal

pub first_lacking-requires-clause-rows : goal.first_lacking-requires-clause-rows
first_lacking-requires-clause-rows c =
    have_rows (site_with (policy_of c.args.topo) c.args.graph.now) (seen_of c.args.views.now).views (map permit_of c.args.permits.now) (pairs_seen c.args.self.now) c.requires.joined

pub first_lacking-requires-clause-named : goal.first_lacking-requires-clause-named
first_lacking-requires-clause-named c =
    are_named (site_with (policy_of c.args.topo) c.args.graph.now) (seen_of c.args.views.now).views (map permit_of c.args.permits.now) (pairs_seen c.args.self.now) c.requires.joined
    (map zones_named c.args.tables.now) c.requires.graph.table c.requires.marks.there

pub no_path_fault-requires-clause-src : goal.no_path_fault-requires-clause-src
no_path_fault-requires-clause-src c =
    let s = site_with (policy_of c.args.topo) c.args.graph.now in
    let j = pairs_seen c.args.self.now in
    (lacking_there s j c.in-Some.pair (have_rows s (seen_of c.args.views.now).views (map permit_of c.args.permits.now) j c.requires.joined) c.in-Some.ensures.first).0

pub no_path_fault-requires-clause-dst : goal.no_path_fault-requires-clause-dst
no_path_fault-requires-clause-dst c =
    let s = site_with (policy_of c.args.topo) c.args.graph.now in
    let j = pairs_seen c.args.self.now in
    (lacking_there s j c.in-Some.pair (have_rows s (seen_of c.args.views.now).views (map permit_of c.args.permits.now) j c.requires.joined) c.in-Some.ensures.first).1

pub returns-in-Some-clause-refused : goal.returns-in-Some-clause-refused
returns-in-Some-clause-refused c =
    let s = site_with (policy_of c.args.topo) c.args.graph.now in
    let v = (seen_of c.args.views.now).views in
    let permits = map permit_of c.args.permits.now in
    let pair = c.in-Some.pair in
    tells_path s v permits pair.0 pair.1 (first_without s v permits (pairs_seen c.args.self.now) c.requires.permits c.requires.joined pair c.in-Some.ensures.first) (sources_of c.args.topo)
    c.no_path_fault.result (c.no_path_fault.ensures c.args.graph.now.zones)

pub first_hidden-requires-clause-named : goal.first_hidden-requires-clause-named
first_hidden-requires-clause-named c =
    have_tables (site_with (policy_of c.args.topo) c.args.graph.now) (seen_of c.args.views.now).views (map permit_of c.args.permits.now) (map zones_named c.args.tables.now) c.requires.graph.table c.requires.permits c.requires.marks.there

pub path_rows-requires-clause-named : goal.path_rows-requires-clause-named
path_rows-requires-clause-named c =
    let s = site_with (policy_of c.args.topo) c.args.graph.now in
    let names = map zones_named c.args.tables.now in
    subst (λ ps. AreNamed s ps names) (sym c.deref.ensures.value)
    (are_named s (seen_of c.args.views.now).views (map permit_of c.args.permits.now) (pairs_seen c.args.self.now) c.requires.joined names c.requires.graph.table c.requires.marks.there)

pub hidden_end_fault-fault-requires-clause-zone : goal.hidden_end_fault-fault-requires-clause-zone
hidden_end_fault-fault-requires-clause-zone c =
    let counted = zones_counted c.args.graph.now.zones (length c.args.graph.now.nets) c.requires.graph.numbers in
    let there = (c.in-Some-first_hidden.ensures {u = tt}).some.here.there in
    omega (arith, counted, there)

pub returns-in-Some-first_hidden-clause-refused : goal.returns-in-Some-first_hidden-clause-refused
returns-in-Some-first_hidden-clause-refused c =
    let s = site_with (policy_of c.args.topo) c.args.graph.now in
    let v = (seen_of c.args.views.now).views in
    let permits = map permit_of c.args.permits.now in
    let end = c.in-Some-first_hidden.end in
    let first = (c.in-Some-first_hidden.ensures {u = tt}).some in
    let q = c.index-permits-end.result in
    let paths = none_without s v permits (pairs_seen c.args.self.now) c.requires.permits c.requires.joined (c.in_default.ensures {u = tt}).none in
    let long = length-map c.args.permits.now permit_of in
    let low = first.below in
    let is = at_place c.args.permits.now end.permit q (omega (arith, low, long)) c.index-permits-end.is in
    let told = c.hidden_end_fault-fault.result in
    tells_hidden s v permits end.permit end.zone.0 end.is_dst first paths (sources_of c.args.topo) told
    (subst (λ (x : Permit). IsTold (sources_of c.args.topo) s (HiddenEnd end.permit x.src.net x.dst.net (end_net x end.is_dst) end.zone.0) told) (sym is) (c.hidden_end_fault-fault.ensures end.permit))

pub returns-clause-clear : goal.returns-clause-clear
returns-clause-clear c =
    let s = site_with (policy_of c.args.topo) c.args.graph.now in
    let v = (seen_of c.args.views.now).views in
    let permits = map permit_of c.args.permits.now in
    clear s v permits (none_without s v permits (pairs_seen c.args.self.now) c.requires.permits c.requires.joined (c.in_default.ensures {u = tt}).none) (c.in_default-first_hidden.ensures {u = tt}).none
