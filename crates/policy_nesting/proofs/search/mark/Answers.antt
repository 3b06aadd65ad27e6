use Rattle.std.proofs.Common.{arith, sym, subst, take}
use Rattle.std.proofs.lemmas.List.{take_more}
use Rattle.policy_nesting.specs.Search.{Marks}
use Rattle.policy_nesting.proofs.search.mark.Goals as goal

pub loop-node-preserved : goal.loop-node-preserved
loop-node-preserved c =
    let row = c.args.row.now in
    let i = c.loop-node.node-index in
    subst (λ l. Marks l c.args.marked.now.items c.args.found.now.items c.mark_one.new.marked.items c.mark_one.new.found.items) (sym (take_more row i 0 (omega arith)))
    (c.in_ok-mark_one.ensures (take i row) c.args.marked.now.items c.args.found.now.items c.loop-node.invariant)
