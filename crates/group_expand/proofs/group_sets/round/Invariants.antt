use Rattle.topology.specs.View.{policy_of}
use Rattle.group_expand.specs.Groups.{AreFilled}
use Rattle.group_expand.specs.Scope.{site_at}
use Rattle.group_expand.specs.Sets.{rows_seen}
use Rattle.group_expand.specs.Spread.{Grows}
use Rattle.group_expand.proofs.GroupOrder.{ChainsSoFar}
use Rattle.group_expand.proofs.group_sets.round.Given as goal

abbrev pub invariant-loop-g : goal.invariant-loop-g
invariant-loop-g l =
    AreFilled (site_at l.base) l.base.areas.now l.done (rows_seen l.groups)
    × Grows l.fn.done l.done
    × ChainsSoFar (policy_of l.base.topo) l.base.topo.kept.sound l.fn.done l.done l.g
