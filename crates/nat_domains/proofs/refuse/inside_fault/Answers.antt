use Rattle.std.proofs.Common.{◌≡◌, ◌<◌, ℕ, true, length, subst, ⊎_elim, arith}
use Rattle.std.proofs.lemmas.Bool.{and_parts, cases_eq}
use Rattle.policy_model.specs.Lists.{has}
use Rattle.policy_model.specs.Tags.{zone_view}
use Rattle.policy_model.specs.Zones.{zone_of}
use Rattle.policy_model.specs.Faults.{has_tag, is_translated_inside}
use Rattle.topology.specs.View.{policy_of}
use Rattle.nat_domains.specs.Marks.{site_of}
use Rattle.nat_domains.proofs.Pairs.{tag_there}
use Rattle.nat_domains.proofs.refuse.inside_fault.Goals as goal

pub told_inside-requires-clause-tag : goal.told_inside-requires-clause-tag
told_inside-requires-clause-tag c =
    let p = policy_of c.args.topo in
    let s = site_of c.args.topo c.args.graph.now in
    let n = c.loop-n.n in
    let tag = c.in-Some.tag.0 in
    let there : n < length p.nets = omega (arith, c.loop-n-test.true, c.net_count-n-end.ensures) in
    tag_there p c.args.topo.kept.sound.numbered n tag there (and_parts (has_tag p n tag) (has (zone_view c.args.table.now (zone_of s n)) tag) c.in-Some.ensures.here).0

pub returns-in-Some : goal.returns-in-Some
returns-in-Some c =
    record {
      net = c.loop-n.n;
      tag = c.in-Some.tag.0;
      there = omega (arith, c.loop-n-test.true, c.net_count-n-end.ensures);
      first = c.in-Some.ensures;
      before = c.loop-n.invariant;
      tells = c.told_inside.ensures;
    }

pub loop-n-preserved : goal.loop-n-preserved
loop-n-preserved c =
    let s = site_of c.args.topo c.args.graph.now in
    λ m t low h. ⊎_elim (λ e. c.in_default.ensures t (subst (λ (x : ℕ). is_translated_inside s c.args.table.now x t ≡ true) e h))
    (λ ne. c.loop-n.invariant m t (omega (arith, low, ne)) h) (cases_eq m c.loop-n.n)

pub returns : goal.returns
returns c = λ m t low h. c.loop-n.invariant m t (omega (arith, low, c.loop-n-test.false, c.net_count-n-end.ensures)) h
