use Rattle.topology.specs.View.{policy_of}
use Rattle.zone_graph.proofs.Labelled.{root_next, other_next}
use Rattle.zone_graph.proofs.labels.label.Goals as goal

pub returns-then-parent-n-clause-labelled : goal.returns-then-parent-n-clause-labelled
returns-then-parent-n-clause-labelled c =
    root_next (policy_of c.args.topo) c.args.parents.now c.args.zones.now c.args.count c.requires.forest c.requires.labels c.requires.left c.if-parent-n.true

pub returns-else-parent-n-clause-labelled : goal.returns-else-parent-n-clause-labelled
returns-else-parent-n-clause-labelled c =
    other_next (policy_of c.args.topo) c.args.parents.now c.args.zones.now c.args.count c.requires.forest c.requires.labels c.requires.left c.if-parent-n.false
