use Rattle.std.proofs.Common.{◌∙◌, Bool, List, [], ◌∷◌, ◌++◌, cond, length, ap, arith}
use Rattle.std.proofs.lemmas.List.{map-append}
use Rattle.spoc_base.specs.declared.ids.ZoneId.{ZoneId}
use Rattle.std.proofs.lemmas.Bool.{and_from, eq-eqb}
use Rattle.policy_model.specs.Policy.{router_at, is_managed}
use Rattle.policy_model.specs.Zones.{zone_at}
use Rattle.zone_graph.specs.Grouped.{doors_with}
use Rattle.group_expand.specs.Seen.{site_of, numbers_of}
use Rattle.group_expand.proofs.Marks.{marked_below, row_has}
use Rattle.group_expand.proofs.Search.{begun, last_seen, popped, ended}
use Rattle.group_expand.proofs.spread.fill.Goals as goal

pub loop-z-init : goal.loop-z-init
loop-z-init c =
    let s = site_of c.args.topo c.args.graph.now in
    let start = c.args.start.0 in
    begun s c.args.marks.now start c.args.seen.now c.visit.new.seen c.args.passed.now (numbers_of c.visit.new.left.items) (omega (arith, c.requires.there, c.requires.seen.each))
    c.requires.seen.bare c.requires.passed.bare c.in_ok-visit.ensures.seen
    (c.in_ok-visit.ensures.left ∙ (ap (λ (b : Bool). cond b (numbers_of c.args.left.now.items) (numbers_of c.args.left.now.items ++ start ∷ [])) (c.requires.seen.bare start)
    ∙ ap (λ (xs : List ZoneId). numbers_of xs ++ start ∷ []) c.requires.left))

pub leave_zone-requires-clause-there : goal.leave_zone-requires-clause-there
leave_zone-requires-clause-there c =
    let s = site_of c.args.topo c.args.graph.now in
    let rest = c.next_zone.new.left.items in
    let z = c.in-Some.z in
    let e = ap numbers_of c.in-Some.ensures.some ∙ map-append (λ y. y.0) rest (z ∷ []) in
    let here = last_seen s c.args.marks.now c.args.start.0 z.0 c.loop-z.seen c.loop-z.passed (numbers_of c.loop-z.left.items) (numbers_of rest) e c.loop-z.invariant in
    omega (arith, marked_below c.loop-z.seen z.0 here, c.loop-z.auto.seen, c.requires.seen.each)

pub loop-z-preserved : goal.loop-z-preserved
loop-z-preserved c =
    let s = site_of c.args.topo c.args.graph.now in
    let p = s.policy in
    let marks = c.args.marks.now in
    let start = c.args.start.0 in
    let rest = c.next_zone.new.left.items in
    let z = c.in-Some.z in
    let e = ap numbers_of c.in-Some.ensures.some ∙ map-append (λ y. y.0) rest (z ∷ []) in
    let here = last_seen s marks start z.0 c.loop-z.seen c.loop-z.passed (numbers_of c.loop-z.left.items) (numbers_of rest) e c.loop-z.invariant in
    c.in_ok-leave_zone.ensures.goes.keeps start here
    (popped s marks start z.0 c.loop-z.seen c.loop-z.passed (numbers_of c.loop-z.left.items) (numbers_of rest) (doors_with p s.zones z.0) e
    (λ i hi m at. row_has _ (length p.ifaces) i hi (and_from (is_managed p (router_at p i)) _ m (eq-eqb (zone_at s i) z.0 at))) c.loop-z.invariant)

pub returns : goal.returns
returns c =
    let s = site_of c.args.topo c.args.graph.now in
    record {
      each = omega (arith, c.loop-z.auto.seen, c.requires.seen.each);
      zones = ended s c.args.marks.now c.args.start.0 c.loop-z.seen c.loop-z.passed (numbers_of c.loop-z.left.items) (ap numbers_of c.in_default.ensures.none) c.loop-z.invariant;
    }
