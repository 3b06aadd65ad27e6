use Rattle.std.proofs.Common.{◌≡◌, map, take}
use Rattle.std.specs.Prelude.{flat_map}
use Rattle.topology.specs.View.{policy_of}
use Rattle.path_walk.specs.Seen.{site_of, link_seen}
use Rattle.static_routes.specs.Found.{with_found, link_found}
use Rattle.static_routes.proofs.gather.add_links.Given as goal

abbrev pub invariant-loop-link : goal.invariant-loop-link
invariant-loop-link l = l.found.keys ≡ with_found l.fn.found.keys (flat_map (link_found (site_of (policy_of l.topo) l.graph) l.v.0) (map link_seen (take l.link-index l.links)))
