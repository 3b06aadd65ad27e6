use Rattle.std.proofs.Common.{arith, ◌∙◌, ap}
use Rattle.std.proofs.lemmas.Grind.{get_or_default_zero}
use Rattle.policy_nesting.specs.Graph.{flag_at}
use Rattle.policy_nesting.proofs.Marked.{search_begins, search_goes_on, search_ends, found_few}
use Rattle.policy_nesting.proofs.search.returns.Goals as goal

pub loop-next-init : goal.loop-next-init
loop-next-init c =
    search_begins c.args.rows.now c.args.start c.row.result.now c.in_ok-marked.marked.items c.new-found.result.items c.mark.new.marked.items c.mark.new.found.items c.row.ensures
    (c.in_ok-marked.ensures.items_if_clones_equal (λ y e. e)) c.new-found.ensures.items c.in_ok-mark.ensures

pub returns-then-next-len : goal.returns-then-next-len
returns-then-next-len c =
    search_ends c.args.rows.now c.args.start c.loop-next.marked.items c.loop-next.found.items c.loop-next.next c.flag.result (omega arith)
    (c.flag.ensures ∙ ap (λ l. flag_at l c.args.start) c.deref.ensures.value) c.loop-next.invariant.0 c.loop-next.invariant.1

pub loop-next-preserved : goal.loop-next-preserved
loop-next-preserved c =
    search_goes_on c.args.rows.now c.args.start c.row-in-loop-next.result.now c.index-node.result.now c.loop-next.next c.loop-next.marked.items c.loop-next.found.items c.mark-in-loop-next.new.marked.items c.mark-in-loop-next.new.found.items
    (omega arith) (c.index-node.ensures ∙ get_or_default_zero c.loop-next.found.items c.loop-next.next c.index-node.result.now (omega arith)) c.row-in-loop-next.ensures c.in_ok-mark-2.ensures c.loop-next.invariant.0 c.loop-next.invariant.1

pub returns : goal.returns
returns c =
    let few = found_few c.args.rows.now c.args.start c.loop-next.marked.items c.loop-next.found.items c.loop-next.invariant.0 in
    search_ends c.args.rows.now c.args.start c.loop-next.marked.items c.loop-next.found.items c.loop-next.next c.flag-2.result (omega arith)
    (c.flag-2.ensures ∙ ap (λ l. flag_at l c.args.start) c.deref-2.ensures.value) c.loop-next.invariant.0 c.loop-next.invariant.1
