use Rattle.std.proofs.Common.{◌∙◌, ap, arith}
use Rattle.std.specs.Prelude.{Option}
use Rattle.std.specs.Option.{option_map}
use Rattle.topology.specs.View.{policy_of}
use Rattle.spoc_base.specs.declared.ids.NetId.{NetId}
use Rattle.group_expand.proofs.AreaRows.{anchor_there, borders_there}
use Rattle.group_expand.proofs.border.start_zone.Goals as goal

pub zone_of-requires : goal.zone_of-requires
zone_of-requires c =
    let p = policy_of c.args.topo in
    let there = anchor_there p c.args.k c.in-Some.n.0 c.args.topo.kept.sound c.requires.there
    (ap (λ a. a.anchor) c.area-area.ensures.seen ∙ ap (λ (o : Option NetId). option_map (λ n. n.0) o) c.in-Some.is) in
    omega (arith, there, c.requires.graph.table.each)

pub first_zone-requires-clause-there : goal.first_zone-requires-clause-there
first_zone-requires-clause-there c =
    borders_there (policy_of c.args.topo) c.args.k c.area-area.result.borders.now c.args.topo.kept.sound c.requires.there (ap (λ a. a.borders) c.area-area.ensures.seen)
