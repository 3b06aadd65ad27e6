use Rattle.std.proofs.Common.{map, sym, ap, ◌∙◌, arith}
use Rattle.spoc_base.specs.Shown.{cidr_of}
use Rattle.subnet_tree.specs.Shown.{net_of}
use Rattle.subnet_tree.proofs.Building.{picked_start, picked_next, picked_end}
use Rattle.subnet_tree.proofs.nodes.nets_in.Goals as goal

pub loop-i-init : goal.loop-i-init
loop-i-init c = (
  c.start_at-start.ensures.bound,
  ap (map net_of) c.new-found.ensures.items
      ∙ sym (picked_start (cidr_of c.args.p) c.args.nodes.now c.start_at-start.result c.start_at-start.ensures.bound (λ k below. let x = c.start_at-start.ensures.low k below in let e = c.net.ensures in omega (arith, x, e))),
)

pub loop-i-preserved : goal.loop-i-preserved
loop-i-preserved c =
    let below = c.loop-i-test.true in
    let bound = c.end_at-end.ensures.bound in (
      omega (arith, below, bound),
      picked_next (cidr_of c.args.p) c.args.nodes.now c.loop-i.i c.index-nodes-i.result (map net_of c.loop-i.found.items) (map net_of c.push_inside.new.found.items)
          (omega (arith, below, bound)) c.index-nodes-i.is c.loop-i.invariant.1 (c.in_ok-push_inside.ensures {u = tt}),
    )

pub returns : goal.returns
returns c =
    let i = c.loop-i.invariant in
    i.1 ∙ picked_end (cidr_of c.args.p) c.args.nodes.now c.loop-i.i c.end_at-end.result c.hi.result.0 c.loop-i-test.false i.0 (c.hi.ensures ∙ ap (λ r. r.last) c.range.ensures) c.end_at-end.ensures.high
