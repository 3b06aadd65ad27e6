use Rattle.std.proofs.Common.{◌≡◌, ◌<◌, ◌≤◌, suc, map, length}
use Rattle.subnet_tree.specs.Knots.{knot_at, last_holding}
use Rattle.subnet_tree.specs.Shown.{knot_of}
use Rattle.subnet_tree.proofs.nodes.climb.Given as goal

abbrev pub invariant-up : goal.invariant-up
invariant-up l =
    (l.at < length l.nodes) × ((knot_at (map knot_of l.nodes) l.at).prefix.net ≤ l.a.0)
    × (last_holding (map knot_of l.nodes) l.a.0 (suc l.fn.start) ≡ last_holding (map knot_of l.nodes) l.a.0 (suc l.at))

abbrev pub decreases-up : goal.decreases-up
decreases-up l = l.at
