use Rattle.std.proofs.Common.{◌∙◌, sym}
use Rattle.policy_model.specs.Zones.{zone_at}
use Rattle.topology.specs.View.{policy_of}
use Rattle.path_walk.specs.Seen.{site_of}
use Rattle.path_walk.proofs.Bridges.{zones_passed}
use Rattle.path_walk.proofs.onward.passes_zone.Goals as goal

pub returns : goal.returns
returns c = c.meets_zone.ensures ∙ sym (zones_passed (zone_at (site_of (policy_of c.args.topo) c.args.graph.now)) c.args.from.0 c.args.zone.0 c.args.path.now)
