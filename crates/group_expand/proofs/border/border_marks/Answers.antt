use Rattle.std.proofs.Common.{ap}
use Rattle.topology.specs.View.{policy_of}
use Rattle.group_expand.proofs.AreaRows.{borders_there}
use Rattle.group_expand.proofs.border.border_marks.Goals as goal

pub mark-requires : goal.mark-requires
mark-requires c =
    borders_there (policy_of c.args.topo) c.args.k c.area.result.borders.now c.args.topo.kept.sound c.requires (ap (λ a. a.borders) c.area.ensures.seen)
