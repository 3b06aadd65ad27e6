use Rattle.std.proofs.Common.{◌∙◌, false, length, ap, arith}
use Rattle.std.proofs.lemmas.List.{length-replicate}
use Rattle.nat_view.proofs.Meeting.{met_none, met_all}
use Rattle.nat_view.proofs.firsts.first_places.Goals as goal

pub loop-k-init : goal.loop-k-init
loop-k-init c =
    let none = c.in_ok-met.ensures.items_if_clones_equal (λ y e. e) in
    (ap length none ∙ length-replicate c.args.tables false, met_none c.args.places.now c.args.tables c.in_ok-met.met.items c.new-listed.result.items none c.new-listed.ensures.items)

pub returns : goal.returns
returns c = met_all c.args.places.now c.loop-k.met.items c.loop-k.listed.items c.loop-k.k (omega arith) c.loop-k.invariant.1
