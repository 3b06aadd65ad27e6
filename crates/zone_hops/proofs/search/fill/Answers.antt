use Rattle.std.proofs.Common.{◌∙◌, ℕ, List, [], ◌∷◌, sym, subst, ap, arith}
use Rattle.std.proofs.lemmas.List.{map-append}
use Rattle.topology.specs.View.{policy_of}
use Rattle.group_expand.proofs.Marks.{marked_below}
use Rattle.zone_hops.specs.Search.{numbers_of, IsSearch}
use Rattle.zone_hops.proofs.Marking.{begun, leads_nowhere, popped, last_marked}
use Rattle.zone_hops.proofs.Beginnings.{are_beginnings}
use Rattle.zone_hops.proofs.search.fill.Goals as goal

pub loop-r-init : goal.loop-r-init
loop-r-init c =
    let p = policy_of c.args.topo in
    let n = c.args.at.0 in
    let t = c.args.target.0 in
    let seen = c.args.seen.now in
    let passed = c.args.passed.now in
    let left = numbers_of c.args.left.now.items in (
      c.in_ok-visit.ensures.keeps t [] (λ apart first more grows here. leads_nowhere p n t more passed apart here)
          (begun p n t seen passed left c.requires.seen.bare c.requires.passed.bare (ap numbers_of c.requires.left)),
      c.in_ok-visit.ensures.seen (λ e. c.requires.apart (sym e)),
    )

pub fan_out-requires-clause-there : goal.fan_out-requires-clause-there
fan_out-requires-clause-there c =
    let rest = c.next_router.new.left.items in
    let r = c.in-Some.r in
    let e = ap numbers_of c.in-Some.ensures.some ∙ map-append (λ y. y.0) rest (r ∷ []) in
    let here = last_marked (policy_of c.args.topo) c.args.at.0 c.args.target.0 r.0 c.loop-r.seen c.loop-r.passed (numbers_of c.loop-r.left.items) (numbers_of rest) e c.loop-r.invariant.0 in
    omega (arith, marked_below c.loop-r.passed r.0 here, c.loop-r.auto.passed, c.requires.passed.each)

pub loop-r-preserved : goal.loop-r-preserved
loop-r-preserved c =
    let p = policy_of c.args.topo in
    let n = c.args.at.0 in
    let t = c.args.target.0 in
    let rest = c.next_router.new.left.items in
    let r = c.in-Some.r in
    let left = numbers_of c.loop-r.left.items in
    let e = ap numbers_of c.in-Some.ensures.some ∙ map-append (λ y. y.0) rest (r ∷ []) in
    let here = last_marked p n t r.0 c.loop-r.seen c.loop-r.passed left (numbers_of rest) e c.loop-r.invariant.0 in (
      c.in_ok-fan_out.ensures.keeps t here (popped p n t r.0 c.loop-r.seen c.loop-r.passed left (numbers_of rest) e c.loop-r.invariant.0),
      c.in_ok-fan_out.ensures.goes.grows t c.loop-r.invariant.1,
    )

pub returns : goal.returns
returns c =
    let p = policy_of c.args.topo in
    let n = c.args.at.0 in
    let t = c.args.target.0 in
    let done = subst (λ (xs : List ℕ). IsSearch p n t c.loop-r.seen c.loop-r.passed xs [] []) (ap numbers_of c.in_default.ensures.none) c.loop-r.invariant.0 in
    are_beginnings p n t c.loop-r.seen c.loop-r.passed done c.loop-r.invariant.1 (λ i hi. (c.args.topo.kept.sound.numbered.placed i hi).1)
    (omega (arith, c.loop-r.auto.passed, c.requires.passed.each))
