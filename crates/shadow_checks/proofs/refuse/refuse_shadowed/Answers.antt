use Rattle.std.proofs.Common.{◌≡◌, ◌∙◌, length, sym}
use Rattle.policy_model.specs.Headline.{Meaning}
use Rattle.policy_model.specs.Zones.{zone_count}
use Rattle.topology.specs.First.{HasNone as HasNoFault, TellsFirst}
use Rattle.topology.specs.View.{policy_of, sources_of}
use Rattle.zone_graph.proofs.Counted.{counted}
use Rattle.nat_view.specs.Fails.{place_seen}
use Rattle.nat_view.specs.Views.{seen_of}
use Rattle.policy_model.specs.FirstFault.{view_at}
use Rattle.shadow_checks.specs.Sightings.{site_of, HasNone, IsFirst}
use Rattle.shadow_checks.specs.declared.find.Sighting.{Sighting}
use Rattle.shadow_checks.proofs.Choosing.{none_of, some_of}
use Rattle.shadow_checks.proofs.Standing.{holder_in, net_in, place_in}
use Rattle.shadow_checks.proofs.Telling.{at_meaning, no_fault, tells_first}
use Rattle.shadow_checks.proofs.refuse.refuse_shadowed.Goals as goal

pub first_sighting-requires : goal.first_sighting-requires
first_sighting-requires c = record { policy = c.requires.policy; shaped = c.requires.shaped; apart = c.requires.apart }

pub fault_of-requires-clause-place : goal.fault_of-requires-clause-place
fault_of-requires-clause-place c =
    let p = policy_of c.args.topo in
    let v = (seen_of c.args.views.now).views in
    let first = some_of (HasNone p v) (λ (s : Sighting). IsFirst p v (place_seen s.at) s.shadow.holder s.shadow.net.0) c.in_ok-sighting.field-0 c.in-Some.sighting c.in-Some.is c.in_ok-sighting.ensures in
    place_in p v (length c.args.graph.now.nets) (place_seen c.in-Some.sighting.at) c.requires.zones c.requires.routers first.viewed

pub fault_of-requires-clause-holder : goal.fault_of-requires-clause-holder
fault_of-requires-clause-holder c =
    let p = policy_of c.args.topo in
    let v = (seen_of c.args.views.now).views in
    let s = c.in-Some.sighting in
    let first = some_of (HasNone p v) (λ (s : Sighting). IsFirst p v (place_seen s.at) s.shadow.holder s.shadow.net.0) c.in_ok-sighting.field-0 s c.in-Some.is c.in_ok-sighting.ensures in
    holder_in p (view_at v (place_seen s.at)) s.shadow.holder s.shadow.net.0 first.here

pub fault_of-requires-clause-net : goal.fault_of-requires-clause-net
fault_of-requires-clause-net c =
    let p = policy_of c.args.topo in
    let v = (seen_of c.args.views.now).views in
    let s = c.in-Some.sighting in
    let first = some_of (HasNone p v) (λ (s : Sighting). IsFirst p v (place_seen s.at) s.shadow.holder s.shadow.net.0) c.in_ok-sighting.field-0 s c.in-Some.is c.in_ok-sighting.ensures in
    net_in p (view_at v (place_seen s.at)) s.shadow.holder s.shadow.net.0 first.here

pub returns-in-Some-clause-refused : goal.returns-in-Some-clause-refused
returns-in-Some-clause-refused c =
    let p = policy_of c.args.topo in
    let v = (seen_of c.args.views.now).views in
    let sources = sources_of c.args.topo in
    let site = site_of c.args.topo c.args.graph.now in
    let s = c.in-Some.sighting in
    let first = some_of (HasNone p v) (λ (s : Sighting). IsFirst p v (place_seen s.at) s.shadow.holder s.shadow.net.0) c.in_ok-sighting.field-0 s c.in-Some.is c.in_ok-sighting.ensures in
    let zones : zone_count site ≡ length v.zones = counted p c.args.graph.now c.requires.graph ∙ sym c.requires.zones in
    at_meaning (λ (m : Meaning). TellsFirst sources m 6 6 c.fault_of.result) site v
    (λ areas. tells_first site v zones c.requires.routers areas sources (place_seen s.at) s.shadow.holder s.shadow.net.0 c.fault_of.result first c.fault_of.ensures)

pub returns-clause-clear : goal.returns-clause-clear
returns-clause-clear c =
    let p = policy_of c.args.topo in
    let v = (seen_of c.args.views.now).views in
    let site = site_of c.args.topo c.args.graph.now in
    let zones : zone_count site ≡ length v.zones = counted p c.args.graph.now c.requires.graph ∙ sym c.requires.zones in
    let none = none_of (HasNone p v) (λ (s : Sighting). IsFirst p v (place_seen s.at) s.shadow.holder s.shadow.net.0) c.in_ok-sighting.field-0 c.in_default.not-Some c.in_ok-sighting.ensures in
    at_meaning (λ (m : Meaning). HasNoFault m 6 6) site v (λ areas. no_fault site v zones c.requires.routers areas none)
