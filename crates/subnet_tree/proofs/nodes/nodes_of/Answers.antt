use Rattle.std.proofs.Common.{◌≡◌, ◌≤◌, length, map, sym, ap, subst, ◌∙◌, arith}
use Rattle.std.proofs.lemmas.List.{length-map}
use Rattle.subnet_tree.specs.Shown.{knot_of}
use Rattle.subnet_tree.specs.Knots.{knot_at, last_holding}
use Rattle.subnet_tree.proofs.Building.{made_low, one_node_more}
use Rattle.subnet_tree.proofs.nodes.nodes_of.Goals as goal

pub last_of-above-requires-clause-low : goal.last_of-above-requires-clause-low
last_of-above-requires-clause-low c = λ k e.
    let nodes = c.loop-item.nodes.items in
    let n = length-map nodes knot_of in
    let l : c.len.result ≡ length nodes = c.len.ensures ∙ (sym c.deref.ensures.len ∙ ap length c.deref.ensures.value) in
    let low = made_low c.args.sorted.now c.loop-item.item-index nodes c.item-item.result c.requires c.loop-item.invariant c.loop-item-test.true c.item-item.is k (omega (arith, e, n, l)) in
    subst (λ xs. (knot_at (map knot_of xs) k).prefix.net ≤ c.net.result.0) (sym c.deref.ensures.value) (subst (λ a. (knot_at (map knot_of nodes) k).prefix.net ≤ a) (sym c.net.ensures) low)

pub loop-item-preserved : goal.loop-item-preserved
loop-item-preserved c =
    let nodes = c.loop-item.nodes.items in
    let l : c.len.result ≡ length nodes = c.len.ensures ∙ (sym c.deref.ensures.len ∙ ap length c.deref.ensures.value) in
    one_node_more c.args.sorted.now c.loop-item.item-index nodes c.item-item.result c.last_of-above.result c.push.new.self.items c.requires c.loop-item.invariant c.loop-item-test.true c.item-item.is
    (c.last_of-above.ensures.last ∙ (ap (λ xs. last_holding (map knot_of xs) c.net.result.0 c.len.result) c.deref.ensures.value
    ∙ (ap (λ a. last_holding (map knot_of nodes) a c.len.result) c.net.ensures ∙ ap (last_holding (map knot_of nodes) c.item-item.result.1.net.0) l)))
    (c.in_ok-push.ensures {u = tt}).items
