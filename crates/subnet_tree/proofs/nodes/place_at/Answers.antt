use Rattle.std.proofs.Common.{sym, ap, ◌∙◌, arith, Some}
use Rattle.subnet_tree.specs.Shown.{net_of}
use Rattle.subnet_tree.proofs.Building.{found_place, no_place}
use Rattle.subnet_tree.proofs.nodes.place_at.Goals as goal

pub returns-in-Some : goal.returns-in-Some
returns-in-Some c =
    let h = c.in-Some.ensures in
    let bound = c.end_at.ensures.bound in
    let below = h.below in
    sym (ap (λ n. Some (net_of n.id)) c.index-nodes-at.is)
    ∙ found_place c.args.nodes.now c.args.a.0 c.end_at.result c.in-Some.at c.index-nodes-at.result bound c.end_at.ensures.high h.last (omega (arith, below, bound)) c.index-nodes-at.is

pub returns-in-None : goal.returns-in-None
returns-in-None c = no_place c.args.nodes.now c.args.a.0 c.end_at.result c.end_at.ensures.bound c.end_at.ensures.high c.in-None.ensures.last
