use Rattle.std.proofs.Common.{◌≡◌, ◌∙◌, ap, length, arith, eqb}
use Rattle.policy_model.specs.Lists.{is_nothing}
use Rattle.rule_distribute.proofs.Nth.{nth, nothing}
use Rattle.rule_distribute.proofs.blocks.is_empty_row.Goals as goal

pub returns : goal.returns
returns c =
    let r = c.index-rows-w.result in
    let len : r.len ≡ length r.items = omega (arith, r.ok.0) in
    c.is_empty.ensures ∙ (ap (λ n. eqb n 0) len ∙ (nothing r.items ∙ ap is_nothing (nth c.args.rows.now c.args.w r c.requires c.index-rows-w.is)))
