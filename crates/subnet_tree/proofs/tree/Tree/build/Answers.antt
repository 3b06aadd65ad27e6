use Rattle.std.proofs.Common.{◌-◌, length, map, ap, ◌∙◌}
use Rattle.subnet_tree.specs.Entries.{least_of_neighbours}
use Rattle.subnet_tree.specs.Knots.{assigned}
use Rattle.subnet_tree.specs.Shown.{entry_of, knot_of}
use Rattle.subnet_tree.proofs.Making.{no_two_same, two_same, made_tree}
use Rattle.subnet_tree.proofs.tree.Tree.build.Goals as goal

pub returns-in-Some-clause-same : goal.returns-in-Some-clause-same
returns-in-Some-clause-same c =
    let s = c.in_ok-sorted.ensures {u = tt} in
    let sorted = c.in_ok-sorted.sorted.items in
    two_same c.args.items.now sorted c.in-Some.n c.in-Some.m s.permutation s.order c.requires
    (c.in-Some.ensures {u = tt} ∙ ap (λ xs. least_of_neighbours (map entry_of xs) (length xs - 1)) c.deref.ensures.value)

pub invariant_of-result : goal.invariant_of-result
invariant_of-result c =
    let s = c.in_ok-sorted.ensures {u = tt} in
    let sorted = c.in_ok-sorted.sorted.items in
    let made = c.in_ok-nodes.ensures {u = tt} in
    let nodes = c.in_ok-nodes.nodes.items in
    let apart = no_two_same c.args.items.now sorted s.permutation s.order c.requires (c.in-None.ensures {u = tt} ∙ ap (λ xs. least_of_neighbours (map entry_of xs) (length xs - 1)) c.deref.ensures.value) in
    made_tree c.args.items.now sorted c.in_ok-items.items.items nodes c.in_ok-parents.parents (c.in_ok-items.ensures {u = tt}) s.permutation s.order c.requires apart
    (made.entries ∙ ap (map entry_of) c.deref-2.ensures.value) made.knots
    (λ n. c.in_ok-parents.ensures {u = tt} n ∙ ap (λ xs. assigned (map knot_of xs) n (length xs)) c.deref-3.ensures.value)

pub returns-clause-apart : goal.returns-clause-apart
returns-clause-apart c =
    let s = c.in_ok-sorted.ensures {u = tt} in
    let sorted = c.in_ok-sorted.sorted.items in
    no_two_same c.args.items.now sorted s.permutation s.order c.requires (c.in-None.ensures {u = tt} ∙ ap (λ xs. least_of_neighbours (map entry_of xs) (length xs - 1)) c.deref.ensures.value)
