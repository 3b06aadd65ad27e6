use Rattle.std.proofs.Common.{arith}
use Rattle.group_expand.specs.Seen.{site_of, numbers_of}
use Rattle.group_expand.proofs.Search.{visited}
use Rattle.group_expand.proofs.spread.visit_by.Goals as goal

pub returns-clause-goes : goal.returns-clause-goes
returns-clause-goes c =
    visited (site_of c.args.topo c.args.graph.now) c.args.marks.now c.args.i.0 c.args.j.0 c.zone_of_iface.result.0 c.args.seen.now c.visit.new.seen
    (numbers_of c.args.left.now.items) (numbers_of c.visit.new.left.items) (omega (arith, c.zone_of_iface.ensures.below, c.requires.zones))
    c.in_ok-visit.ensures.seen c.in_ok-visit.ensures.left c.requires.entered c.requires.there c.requires.one_router c.requires.open c.if-marks-j.false c.zone_of_iface.ensures.value
