use Rattle.std.proofs.Common.{length, arith}
use Rattle.topology.specs.View.{policy_of}
use Rattle.nat_view.specs.Views.{seen_of}
use Rattle.permit_lines.specs.Given.{site_with}
use Rattle.permit_set.specs.Shown.{permit_of}
use Rattle.rule_distribute.proofs.AllConcerned.{zones_counted}
use Rattle.rule_distribute.proofs.Passing.{more_zones}
use Rattle.rule_distribute.proofs.hidden.first_zone.Goals as goal

pub loop-z-preserved : goal.loop-z-preserved
loop-z-preserved c =
    more_zones (site_with (policy_of c.args.topo) c.args.graph.now) (seen_of c.args.views.now).views (permit_of c.args.q) c.loop-z.z c.loop-z.invariant (c.in_default.ensures {u = tt}).none

pub returns-in-Some-clause-some : goal.returns-in-Some-clause-some
returns-in-Some-clause-some c =
    let counted = zones_counted c.args.graph.now.zones (length c.args.graph.now.nets) c.requires.graph.numbers in
    record { there = omega (arith, c.loop-z-test.true, c.count-z-end.ensures, counted); here = (c.in-Some.ensures {u = tt}).some; before = c.loop-z.invariant }

pub returns-clause-none : goal.returns-clause-none
returns-clause-none c z below =
    let counted = zones_counted c.args.graph.now.zones (length c.args.graph.now.nets) c.requires.graph.numbers in
    c.loop-z.invariant z (omega (arith, below, c.loop-z-test.false, c.count-z-end.ensures, counted))
