use Rattle.std.proofs.Common.{◌∙◌, sym, arith}
use Rattle.topology.specs.View.{policy_of}
use Rattle.zone_hops.specs.Search.{numbers_of}
use Rattle.zone_hops.proofs.Marking.{grown_by, reached}
use Rattle.zone_hops.proofs.search.reach.Goals as goal

pub returns-clause-grown : goal.returns-clause-grown
returns-clause-grown c =
    grown_by c.router_of_iface-r.result.0 c.args.passed.now c.mark.new.passed (numbers_of c.args.left.now.items) (numbers_of c.mark.new.left.items)
    (omega (arith, c.router_of_iface-r.ensures.below, c.requires.routers)) c.in_ok-mark.ensures.passed c.in_ok-mark.ensures.left

pub returns-clause-keeps : goal.returns-clause-keeps
returns-clause-keeps c =
    reached (policy_of c.args.topo) c.args.i.0 c.router_of_iface-r.result.0 c.args.passed.now c.mark.new.passed (numbers_of c.args.left.now.items) (numbers_of c.mark.new.left.items)
    c.requires.there c.router_of_iface-r.ensures.value (sym c.is_managed_router.ensures ∙ c.if-is_managed_router.false) (omega (arith, c.router_of_iface-r.ensures.below, c.requires.routers)) c.in_ok-mark.ensures.passed c.in_ok-mark.ensures.left
