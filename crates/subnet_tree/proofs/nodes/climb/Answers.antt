use Rattle.std.proofs.Common.{sym, ◌∙◌, arith}
use Rattle.subnet_tree.proofs.Climbing.{found_here, top, up}
use Rattle.subnet_tree.proofs.nodes.climb.Goals as goal

pub up-smaller : goal.up-smaller
up-smaller c =
    let i = c.up.invariant in
    (up c.args.nodes.now c.requires.knots c.args.a.0 c.up.at c.index-nodes-at.result i.0 c.index-nodes-at.is i.1 (sym (c.if-holds.ensures {u = tt})) c.in-Some.up c.in-Some.is).lower

pub up-preserved : goal.up-preserved
up-preserved c =
    let i = c.up.invariant in
    let w = up c.args.nodes.now c.requires.knots c.args.a.0 c.up.at c.index-nodes-at.result i.0 c.index-nodes-at.is i.1 (sym (c.if-holds.ensures {u = tt})) c.in-Some.up c.in-Some.is in
    let lower = w.lower in
    let below = i.0 in
    (omega (arith, lower, below), w.low_too, i.2 ∙ w.same_last)

pub returns-in-None : goal.returns-in-None
returns-in-None c =
    let i = c.up.invariant in
    sym (i.2 ∙ top c.args.nodes.now c.requires.knots c.args.a.0 c.up.at c.index-nodes-at.result i.0 c.index-nodes-at.is i.1 (sym (c.if-holds.ensures {u = tt})) c.in-None.is)

pub returns-then-holds : goal.returns-then-holds
returns-then-holds c =
    let i = c.up.invariant in
    sym (i.2 ∙ found_here c.args.nodes.now c.args.a.0 c.up.at c.index-nodes-at.result i.0 c.index-nodes-at.is (sym (c.if-holds.ensures {u = tt})))
