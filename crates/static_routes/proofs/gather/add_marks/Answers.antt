use Rattle.std.proofs.Common.{◌∙◌, List, map, ap}
use Rattle.std.specs.Prelude.{flat_map}
use Rattle.std.proofs.lemmas.Result.{on_ok_weaker}
use Rattle.policy_model.specs.Zones.{zone_of}
use Rattle.policy_model.specs.Paths as plain
use Rattle.policy_model.specs.Marks as marks
use Rattle.topology.specs.View.{policy_of}
use Rattle.path_walk.specs.Seen.{site_of, crossing_seen, link_seen}
use Rattle.static_routes.specs.Found.{found_order, with_found, crossing_found, link_found}
use Rattle.static_routes.proofs.Adding.{with_both}
use Rattle.static_routes.proofs.Below.{leave_below, links_below}
use Rattle.static_routes.proofs.gather.add_marks.Goals as goal

pub add_crossings-requires-clause-there : goal.add_crossings-requires-clause-there
add_crossings-requires-clause-there c =
    let s = site_of (policy_of c.args.topo) c.args.graph.now in
    leave_below s c.args.from.0 (zone_of s c.args.v.0) c.items.result.now (ap (map crossing_seen) c.items.ensures ∙ c.requires.crossings)

pub add_links-requires : goal.add_links-requires
add_links-requires c =
    let s = site_of (policy_of c.args.topo) c.args.graph.now in
    record { there = links_below s c.args.from.0 (zone_of s c.args.v.0) c.items-2.result.now (ap (map link_seen) c.items-2.ensures ∙ c.requires.links) }

pub returns : goal.returns
returns c =
    let s = site_of (policy_of c.args.topo) c.args.graph.now in
    let to = zone_of s c.args.v.0 in
    on_ok_weaker c.add_links.result
    (λ e.
    with_both found_order c.args.found.now.keys c.add_crossings.new.found.keys c.add_links.new.found.keys (flat_map (crossing_found s c.args.v.0) (marks.marked_crossings s c.args.from.0 to)) (flat_map (link_found s c.args.v.0) (marks.marked_links s c.args.from.0 to))
    (c.in_ok-add_crossings.ensures ∙ ap (λ (l : List plain.Crossing). with_found c.args.found.now.keys (flat_map (crossing_found s c.args.v.0) l)) (ap (map crossing_seen) c.items.ensures ∙ c.requires.crossings))
    (e ∙ ap (λ (l : List marks.Link). with_found c.add_crossings.new.found.keys (flat_map (link_found s c.args.v.0) l)) (ap (map link_seen) c.items-2.ensures ∙ c.requires.links)))
    c.add_links.ensures
