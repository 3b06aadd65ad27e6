use Rattle.policy_model.specs.Zones.{zone_at}
use Rattle.group_expand.specs.Seen.{site_of, numbers_of, iface_numbers}
use Rattle.group_expand.specs.Spread.{GoesBy, SeesRow}
use Rattle.group_expand.proofs.spread.fan_out.Given as goal

abbrev pub invariant-loop-j : goal.invariant-loop-j
invariant-loop-j l =
    let s = site_of l.topo l.graph in
    GoesBy s l.marks (zone_at s l.i.0) l.fn.seen (numbers_of l.fn.left.items) l.seen (numbers_of l.left.items)
    × SeesRow s l.marks l.seen (iface_numbers l.row) l.j-index
