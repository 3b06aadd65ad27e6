use Rattle.std.proofs.Common.{ℕ, List, sym, subst, ⊎_elim, arith}
use Rattle.std.specs.List.Sorted.{IsStrictlyIncreasing}
use Rattle.std.proofs.lemmas.Bool.{cases_eq}
use Rattle.policy_model.specs.Tags.{zone_view}
use Rattle.topology.specs.View.{policy_of}
use Rattle.nat_domains.specs.Translated.{numbers_of, HasNoPair, IsFirstPair}
use Rattle.nat_domains.proofs.Calling.{count_zones, table_long}
use Rattle.nat_domains.proofs.Pairs.{parts_of, tag_there}
use Rattle.nat_domains.proofs.refuse.twice_fault.Goals as goal

pub zone-requires : goal.zone-requires
zone-requires c =
    let long = table_long (policy_of c.args.topo) c.args.graph.now c.requires.graph c.args.table.now c.requires.views in omega (arith, long, c.loop-z-test.true, c.count-z-end.ensures)

pub first_pair-requires : goal.first_pair-requires
first_pair-requires c =
    let counted = count_zones (policy_of c.args.topo) c.args.graph.now c.requires.graph in
    subst (λ (xs : List ℕ). IsStrictlyIncreasing xs) (sym c.zone.ensures) (c.requires.views.ascending c.loop-z.z (omega (arith, counted, c.loop-z-test.true, c.count-z-end.ensures)))

pub told_twice-requires-clause-tag : goal.told_twice-requires-clause-tag
told_twice-requires-clause-tag c =
    let p = policy_of c.args.topo in
    let two = c.in-Some.two in
    let w = parts_of p (numbers_of c.zone.result.now) two.net.0 two.tag.0 two.other.0 c.in-Some.ensures.pair.here in
    tag_there p c.args.topo.kept.sound.numbered two.net.0 two.tag.0 c.in-Some.ensures.there w.first

pub told_twice-requires-clause-other : goal.told_twice-requires-clause-other
told_twice-requires-clause-other c =
    let p = policy_of c.args.topo in
    let two = c.in-Some.two in
    let w = parts_of p (numbers_of c.zone.result.now) two.net.0 two.tag.0 two.other.0 c.in-Some.ensures.pair.here in
    tag_there p c.args.topo.kept.sound.numbered two.net.0 two.other.0 c.in-Some.ensures.there w.second

pub returns-in-Some : goal.returns-in-Some
returns-in-Some c =
    let p = policy_of c.args.topo in
    let two = c.in-Some.two in
    let counted = count_zones p c.args.graph.now c.requires.graph in
    record {
      zone = c.loop-z.z;
      net = two.net.0;
      tag = two.tag.0;
      other = two.other.0;
      there = omega (arith, counted, c.loop-z-test.true, c.count-z-end.ensures);
      first = subst (λ (xs : List ℕ). IsFirstPair p xs two.net.0 two.tag.0 two.other.0) c.zone.ensures c.in-Some.ensures;
      before = c.loop-z.invariant;
      tells = c.told_twice.ensures;
    }

pub loop-z-preserved : goal.loop-z-preserved
loop-z-preserved c =
    let p = policy_of c.args.topo in
    let v = c.args.table.now in
    λ y low. ⊎_elim (λ e. subst (λ (x : ℕ). HasNoPair p (zone_view v x)) (sym e) (subst (λ (xs : List ℕ). HasNoPair p xs) c.zone.ensures c.in_default.ensures))
    (λ ne. c.loop-z.invariant y (omega (arith, low, ne))) (cases_eq y c.loop-z.z)

pub returns : goal.returns
returns c =
    let counted = count_zones (policy_of c.args.topo) c.args.graph.now c.requires.graph in
    λ y low. c.loop-z.invariant y (omega (arith, low, counted, c.loop-z-test.false, c.count-z-end.ensures))
