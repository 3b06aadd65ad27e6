use Rattle.topology.specs.View.{policy_of}
use Rattle.zone_graph.proofs.Ties.{points_lower}
use Rattle.zone_graph.proofs.Joining.{joined_back}
use Rattle.zone_graph.proofs.forest.link.Goals as goal

pub returns-clause-forest : goal.returns-clause-forest
returns-clause-forest c =
    let p = policy_of c.args.topo in
    points_lower p c.args.parents.now c.args.b c.args.a c.requires.forest c.requires.second.there c.requires.order
    (joined_back p c.args.a c.args.b c.requires.joined)
