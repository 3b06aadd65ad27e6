use Rattle.std.proofs.Common.{◌≡◌, false, ap, sym, ◌∙◌}
use Rattle.policy_nesting.specs.Graph.{flag_at}
use Rattle.policy_nesting.proofs.Circles.{no_circle}
use Rattle.policy_nesting.proofs.circle.returns_to.Goals as goal

pub returns-then-not-flag : goal.returns-then-not-flag
returns-then-not-flag c = λ depth m h l.
    let deep = c.args.graph.now.deep.items in
    let low : flag_at deep c.args.node ≡ false = ap (λ l. flag_at l c.args.node) (sym c.deref.ensures.value) ∙ sym c.flag.ensures ∙ c.if-not-flag.true in
    no_circle c.args.graph.now.rows.items depth deep c.args.node h c.requires.node low m
