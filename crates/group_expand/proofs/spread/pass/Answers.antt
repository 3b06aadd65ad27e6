use Rattle.std.proofs.Common.{◌≡◌, ◌<◌, ◌∙◌, ℕ, length, sym, subst, ap, arith}
use Rattle.policy_model.specs.Policy.{router_at}
use Rattle.group_expand.specs.Seen.{site_of, numbers_of}
use Rattle.group_expand.proofs.Search.{passed_on}
use Rattle.group_expand.proofs.spread.pass.Goals as goal

pub returns : goal.returns
returns c =
    let s = site_of c.args.topo c.args.graph.now in
    let r = c.iface.result.router.0 in
    let its : router_at s.policy c.args.i.0 ≡ r = ap (λ i. i.router) c.iface.ensures.seen in
    let there = subst (λ (x : ℕ). x < length s.policy.routers) its (c.args.topo.kept.sound.numbered.placed c.args.i.0 c.requires.there).1 in
    record {
      goes = passed_on s c.args.marks.now c.args.i.0 r c.args.seen.now c.args.passed.now c.fan_out.new.seen (numbers_of c.args.left.now.items) (numbers_of c.fan_out.new.left.items)
          (omega (arith, there, c.requires.routers)) its c.in_ok-fan_out.ensures.goes (λ j hj o e. c.in_ok-fan_out.ensures.seen j hj o (e ∙ sym its));
    }
