use Rattle.std.proofs.Common.{◌≡◌, ◌∙◌, ◌∷◌, ◌++◌, [], ℕ, List, Bool, true, length, take, drop, vec_len, refl, sym, ap, subst, arith}
use Rattle.policy_model.specs.Lists.{has}
use Rattle.std.proofs.Math.Seq.{take-append_seam}
use Rattle.nat_domains.specs.Marks.{site_of}
use Rattle.nat_domains.specs.Spreading.{IsSpreading}
use Rattle.nat_domains.proofs.Members.{marked_below, has_right, one_has}
use Rattle.nat_domains.proofs.Passing.{taken_first, all_spread}
use Rattle.nat_domains.proofs.spread.spread.Goals as goal

pub leave_zone-requires-clause-there : goal.leave_zone-requires-clause-there
leave_zone-requires-clause-there c =
    let z = c.in-Some.z in
    let here = subst (λ (xs : List ℕ). has xs z ≡ true) (sym c.in-Some.ensures.items) (has_right c.pop.new.self.items (z ∷ []) z (one_has z z refl)) in
    omega (arith, marked_below c.loop-z.marks z (c.loop-z.invariant.0.waits z here), c.loop-z.auto.marks, c.requires.each)

pub loop-z-preserved : goal.loop-z-preserved
loop-z-preserved c =
    let s = site_of c.args.topo c.args.graph.now in
    let z = c.in-Some.z in
    let new = c.leave_zone.new.passed in
    let old = c.loop-z.passed in
    let e : take (vec_len old) (new ++ drop (length new) old.items) ≡ new =
    ap (λ (n : ℕ). take n (new ++ drop (length new) old.items)) (sym c.deref_mut.ensures.len ∙ sym c.leave_zone.auto.passed) ∙ take-append_seam new (drop (length new) old.items) in (
      subst (λ (xs : List Bool). IsSpreading s c.args.tag.0 c.args.marks.now c.leave_zone.new.marks c.leave_zone.new.waiting.items xs) (sym e)
          (c.in_ok-leave_zone.ensures.stays c.args.marks.now
          (subst (λ (xs : List Bool). IsSpreading s c.args.tag.0 c.args.marks.now c.loop-z.marks (z ∷ c.pop.new.self.items) xs) (sym c.deref_mut.ensures.value)
          (taken_first s c.args.tag.0 z c.args.marks.now c.loop-z.marks c.pop.new.self.items c.loop-z.waiting.items old.items c.in-Some.ensures.items c.loop-z.invariant.0))),
      ap length e ∙ (c.leave_zone.auto.passed ∙ (ap length c.deref_mut.ensures.value ∙ c.loop-z.invariant.1)),
    )

pub returns : goal.returns
returns c =
    let s = site_of c.args.topo c.args.graph.now in
    let empty : c.loop-z.waiting.items ≡ [] = grind (arith, c.in_default.ensures.variant, c.in_default.ensures.items, c.in_default.ensures.rest, c.in_default.is) in
    all_spread s c.args.tag.0 c.args.marks.now c.loop-z.marks c.loop-z.passed.items
    (subst (λ (xs : List ℕ). IsSpreading s c.args.tag.0 c.args.marks.now c.loop-z.marks xs c.loop-z.passed.items) empty c.loop-z.invariant.0)
