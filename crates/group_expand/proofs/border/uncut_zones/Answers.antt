use Rattle.std.proofs.Common.{arith, length}
use Rattle.group_expand.specs.Seen.{site_of}
use Rattle.group_expand.proofs.AreaRows.{first_cut_off, none_cut_off, marked_row}
use Rattle.group_expand.proofs.border.uncut_zones.Goals as goal

pub returns-in-Some-clause-split : goal.returns-in-Some-clause-split
returns-in-Some-clause-split c =
    first_cut_off (site_of c.args.topo c.args.graph.now) c.args.k c.args.marks.now _ c.requires.marks c.args.start.0 c.args.seen.now _
    c.requires.start c.requires.seen c.in-Some.i.0 c.in-Some.ensures.some

pub returns-in_ok-listed-in-None-clause-zones : goal.returns-in_ok-listed-in-None-clause-zones
returns-in_ok-listed-in-None-clause-zones c =
    marked_row (site_of c.args.topo c.args.graph.now) c.args.k c.args.marks.now _ c.requires.marks c.args.start.0 c.args.seen.now _
    c.requires.start c.requires.seen _ c.in_ok-listed-in-None.ensures.zones

pub returns-in_ok-listed-in-None-clause-whole : goal.returns-in_ok-listed-in-None-clause-whole
returns-in_ok-listed-in-None-clause-whole c =
    none_cut_off (site_of c.args.topo c.args.graph.now) c.args.k c.args.marks.now _ c.requires.marks c.args.start.0 c.args.seen.now _
    c.requires.start c.requires.seen (length (site_of c.args.topo c.args.graph.now).policy.ifaces) (omega (arith, c.requires.marks.each)) c.in-None.ensures.none _
    (marked_row (site_of c.args.topo c.args.graph.now) c.args.k c.args.marks.now _ c.requires.marks c.args.start.0 c.args.seen.now _
    c.requires.start c.requires.seen _ c.in_ok-listed-in-None.ensures.zones)
