use Rattle.std.proofs.Common.{◌<◌, subst, sym, refl, Some, None}
use Rattle.std.proofs.lemmas.Result.{IfOk-weaker}
use Rattle.policy_decls.specs.Uses.{names_it}
use Rattle.policy_names.specs.Seen.{mention_seen}
use Rattle.policy_names.specs.Tables.{numbered}
use Rattle.policy_nesting.proofs.Circles.{position_within, circle_none, circle_at}
use Rattle.policy_nesting.proofs.circle.lies_on_circle.Goals as goal

pub returns_to-requires-clause-node : goal.returns_to-requires-clause-node
returns_to-requires-clause-node c =
    let m = mention_seen c.args.node.now in
    subst (λ k. c.in-Some.number < k) (sym c.requires.long) (position_within (names_it m) (numbered c.args.table.now m.kind) c.in-Some.number (sym (c.in-Some.ensures m.shown)))

pub returns-in-Some : goal.returns-in-Some
returns-in-Some c =
    let m = mention_seen c.args.node.now in
    IfOk-weaker c.returns_to.result _ _ (λ on h decls n depth same named g kind known.
    circle_at n decls c.args.table.now same named m kind known (Some c.in-Some.number) c.in-Some.number on c.args.graph.now.rows.items g.nodes (c.in-Some.ensures m.shown) refl (λ k l. h depth k g.deep l)) c.returns_to.ensures

pub returns-in-None : goal.returns-in-None
returns-in-None c = λ decls n depth same named g kind known.
    let m = mention_seen c.args.node.now in
    circle_none n decls c.args.table.now same named m kind known None (c.in-None.ensures m.shown) refl
