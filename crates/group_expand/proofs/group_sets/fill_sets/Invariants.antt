use Rattle.topology.specs.View.{policy_of}
use Rattle.group_expand.specs.Groups.{AreFilled, HaveChains}
use Rattle.group_expand.specs.Scope.{site_at}
use Rattle.group_expand.specs.Sets.{rows_seen}
use Rattle.group_expand.proofs.group_sets.fill_sets.Given as goal

abbrev pub invariant-loop : goal.invariant-loop
invariant-loop l =
    AreFilled (site_at l.base) l.base.areas.now l.done (rows_seen l.groups)
    × HaveChains (policy_of l.base.topo) l.done l.counter
