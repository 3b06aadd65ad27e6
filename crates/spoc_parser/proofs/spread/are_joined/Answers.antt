use Rattle.std.proofs.Common.{◌≡◌, ◌+◌, ◌-◌, drop, sym, ap, ◌∙◌, arith}
use Rattle.std.specs.Prelude.{◌&&◌}
use Rattle.spoc_parser.specs.Texts.{are_joined}
use Rattle.spoc_parser.specs.SeenParts.{written}
use Rattle.spoc_parser.proofs.Spreading.{joins_at, joins_end}
use Rattle.spoc_parser.proofs.spread.are_joined.Goals as goal

pub returns-then-not-are_two_joined : goal.returns-then-not-are_two_joined
returns-then-not-are_two_joined c =
    let step = joins_at c.args.words.now c.loop-at.at _ _ c.are_two_joined.result c.loop-at.invariant.some c.loop-at-test.true c.are_two_joined.ensures in
    ap (λ b. b && are_joined (drop c.loop-at.at (written c.args.words.now))) (sym c.if-not-are_two_joined.true) ∙ sym step ∙ c.loop-at.invariant.read

pub loop-at-preserved : goal.loop-at-preserved
loop-at-preserved c =
    let step = joins_at c.args.words.now c.loop-at.at _ _ c.are_two_joined.result c.loop-at.invariant.some c.loop-at-test.true c.are_two_joined.ensures in
    let is : c.loop-at.at ≡ c.loop-at.at + 1 - 1 = omega arith in
    record {
      some = omega arith;
      read = ap (λ k. are_joined (drop k (written c.args.words.now))) (sym is) ∙ ap (λ b. b && are_joined (drop c.loop-at.at (written c.args.words.now))) (sym c.if-not-are_two_joined.false) ∙ sym step ∙ c.loop-at.invariant.read;
    }

pub returns : goal.returns
returns c = sym (joins_end c.args.words.now (c.loop-at.at - 1) (omega (arith, c.loop-at-test.false, c.loop-at.invariant.some))) ∙ c.loop-at.invariant.read
