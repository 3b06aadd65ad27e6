use Rattle.std.proofs.Common.{◌∙◌, ◌<◌, length, map, sym, subst, arith}
use Rattle.std.proofs.lemmas.List.{length-map}
use Rattle.policy_model.specs.Permits as plain
use Rattle.topology.specs.View.{policy_of}
use Rattle.nat_view.specs.Views.{seen_of}
use Rattle.permit_lines.specs.Given.{site_with}
use Rattle.permit_set.specs.Shown.{permit_of}
use Rattle.rule_distribute.specs.Hidden.{HasTable, IsFirstZone}
use Rattle.rule_distribute.specs.Paths.{zones_named}
use Rattle.rule_distribute.proofs.Ends.{at_place, src_there, dst_there}
use Rattle.rule_distribute.proofs.Passing.{more_permits}
use Rattle.rule_distribute.proofs.hidden.first_hidden.Goals as goal

pub first_zone_of-requires-clause-src : goal.first_zone_of-requires-clause-src
first_zone_of-requires-clause-src c = src_there (policy_of c.args.topo) c.args.permits.now c.requires.permits c.loop-k.k c.index-permits-k.result c.loop-k-test.true c.index-permits-k.is

pub first_zone_of-requires-clause-dst : goal.first_zone_of-requires-clause-dst
first_zone_of-requires-clause-dst c = dst_there (policy_of c.args.topo) c.args.permits.now c.requires.permits c.loop-k.k c.index-permits-k.result c.loop-k-test.true c.index-permits-k.is

pub first_zone_of-requires-clause-named : goal.first_zone_of-requires-clause-named
first_zone_of-requires-clause-named c =
    let long = length-map c.args.permits.now permit_of in
    subst (HasTable c.args.graph.now.zones (map zones_named c.args.tables.now)) (at_place c.args.permits.now c.loop-k.k c.index-permits-k.result c.loop-k-test.true c.index-permits-k.is)
    (c.requires.named c.loop-k.k (omega (arith, c.loop-k-test.true, long)))

pub loop-k-preserved : goal.loop-k-preserved
loop-k-preserved c =
    more_permits (site_with (policy_of c.args.topo) c.args.graph.now) (seen_of c.args.views.now).views (map permit_of c.args.permits.now) c.loop-k.k (permit_of c.index-permits-k.result)
    (at_place c.args.permits.now c.loop-k.k c.index-permits-k.result c.loop-k-test.true c.index-permits-k.is) c.loop-k.invariant (c.in_default.ensures {u = tt}).none

pub returns-in-Some-clause-some : goal.returns-in-Some-clause-some
returns-in-Some-clause-some c =
    let s = site_with (policy_of c.args.topo) c.args.graph.now in
    let v = (seen_of c.args.views.now).views in
    let long = length-map c.args.permits.now permit_of in
    record {
      below = omega (arith, c.loop-k-test.true, long);
      here = subst (λ (q : plain.Permit). IsFirstZone s v q c.in-Some.zone.0 c.in-Some.is_dst) (sym (at_place c.args.permits.now c.loop-k.k c.index-permits-k.result c.loop-k-test.true c.index-permits-k.is))
          (c.in-Some.ensures {u = tt}).some;
      before = c.loop-k.invariant;
    }

pub returns-clause-none : goal.returns-clause-none
returns-clause-none c k below =
    let long = length-map c.args.permits.now permit_of in
    c.loop-k.invariant k (omega (arith, below, c.loop-k-test.false, long))
