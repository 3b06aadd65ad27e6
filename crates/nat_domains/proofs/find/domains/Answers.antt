use Rattle.std.proofs.Common.{◌≡◌, refl}
use Rattle.std.proofs.lemmas.Result.{err_from_is_err_and}
use Rattle.spoc_base.specs.declared.fault.Fault.{Fault}
use Rattle.policy_model.specs.Headline.{Meaning}
use Rattle.policy_model.specs.Tags.{AreViews}
use Rattle.topology.specs.First.{HasNone, TellsFirst}
use Rattle.topology.specs.View.{policy_of, sources_of}
use Rattle.nat_domains.specs.Marks.{site_of}
use Rattle.nat_domains.specs.Told.{TellsConflict}
use Rattle.nat_domains.proofs.Calling.{zone_there}
use Rattle.nat_domains.proofs.Deciding.{at_site, first_conflict, first_twice, first_inside, none_first, refusal_weaker}
use Rattle.nat_domains.proofs.find.domains.Goals as goal

pub returns-in_err-table-clause-refused : goal.returns-in_err-table-clause-refused
returns-in_err-table-clause-refused c =
    let s = site_of c.args.topo c.args.graph.now in
    let sources = sources_of c.args.topo in
    let p = err_from_is_err_and c.from_residual.result c.from_residual.ensures.1 in
    rw (p.1, p.2)
    (refusal_weaker (λ (fault : Fault). TellsConflict sources s fault) (λ (fault : Fault). (m : Meaning) → m.site ≡ s → AreViews m.site m.views → TellsFirst sources m 1 3 fault)
    (λ fault tells. at_site (λ (m : Meaning). TellsFirst sources m 1 3 fault) s (λ w areas views. first_conflict sources s c.args.topo.kept.sound.numbered fault tells w areas views))
    c.in_err-table.field-0.0 c.in_err-table.ensures.refused)

pub returns-in-Some-clause-refused : goal.returns-in-Some-clause-refused
returns-in-Some-clause-refused c =
    let p = policy_of c.args.topo in
    let s = site_of c.args.topo c.args.graph.now in
    at_site (λ (m : Meaning). TellsFirst (sources_of c.args.topo) m 1 3 c.in-Some.fault) s
    (λ w areas views. first_twice (sources_of c.args.topo) s c.args.topo.kept.sound.numbered c.in_ok-table.table w areas c.in_ok-table.ensures.views views
    (zone_there p c.args.graph.now c.requires) c.in_ok-table.ensures.none c.in-Some.fault c.in-Some.ensures)

pub returns-in-Some-inside_fault-clause-refused : goal.returns-in-Some-inside_fault-clause-refused
returns-in-Some-inside_fault-clause-refused c =
    let p = policy_of c.args.topo in
    let s = site_of c.args.topo c.args.graph.now in
    at_site (λ (m : Meaning). TellsFirst (sources_of c.args.topo) m 1 3 c.in-Some-inside_fault.fault) s
    (λ w areas views. first_inside (sources_of c.args.topo) s c.args.topo.kept.sound.numbered c.in_ok-table.table w areas c.in_ok-table.ensures.views views
    (zone_there p c.args.graph.now c.requires) c.in_ok-table.ensures.none c.in_default.ensures c.in-Some-inside_fault.fault c.in-Some-inside_fault.ensures)

pub same-table : goal.same-table
same-table c = refl

pub returns-clause-views : goal.returns-clause-views
returns-clause-views c = c.in_ok-table.ensures.views

pub returns-clause-clear : goal.returns-clause-clear
returns-clause-clear c =
    let p = policy_of c.args.topo in
    let s = site_of c.args.topo c.args.graph.now in
    at_site (λ (m : Meaning). HasNone m 1 3) s
    (λ w areas views. none_first (sources_of c.args.topo) s c.args.topo.kept.sound.numbered c.in_ok-table.table w areas c.in_ok-table.ensures.views views
    (zone_there p c.args.graph.now c.requires) c.in_ok-table.ensures.none c.in_default.ensures c.in_default-inside_fault.ensures)
