use Rattle.std.proofs.Common.{◌∙◌, ap, subst, sym, arith}
use Rattle.std.specs.Prelude.{option_map}
use Rattle.std.proofs.lemmas.Bool.{false≢true}
use Rattle.spoc_base.specs.Address.{Interval}
use Rattle.spoc_base.specs.Shown.{cidr_of, interval_of}
use Rattle.nat_view.specs.Sights.{sight_of}
use Rattle.shadow_checks.specs.Lying.{IsCommon}
use Rattle.shadow_checks.proofs.Choosing.{not_some}
use Rattle.shadow_checks.proofs.Walking.{none_at, none_hidden}
use Rattle.shadow_checks.proofs.walk.lies_at.Goals as goal

pub returns-in_default : goal.returns-in_default
returns-in_default c =
    let s = sight_of c.args.view in
    let hidden = sym c.seen_prefix.ensures ∙ ap (option_map cidr_of) (not_some c.seen_prefix.result c.in_default.not-Some) in (
      λ f. absurd (false≢true f),
      λ w. absurd (none_hidden s.policy s.tags (interval_of c.args.range) c.args.m.0 hidden w),
    )

pub returns : goal.returns
returns c =
    let s = sight_of c.args.view in
    let range = interval_of c.args.range in
    let start = c.common-start.result.0 in
    let end = c.common-start.result.1 in
    let seen = sym c.seen_prefix.ensures ∙ ap (option_map cidr_of) c.in-Some.is in
    let common = subst (λ (i : Interval). IsCommon range i start end) c.range.ensures c.common-start.ensures.common in (
      λ f. absurd (false≢true f),
      λ w. absurd (none_at s.policy s.tags range c.args.m.0 (cidr_of c.in-Some.prefix) seen start end common c.loop-at.at (omega (arith, c.loop-at-test.false)) c.loop-at.invariant.1 w),
    )
