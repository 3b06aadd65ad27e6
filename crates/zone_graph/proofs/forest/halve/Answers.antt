use Rattle.topology.specs.View.{policy_of}
use Rattle.zone_graph.proofs.Ties.{points_lower, joined_twice, low_twice, roots_stay}
use Rattle.zone_graph.proofs.forest.halve.Goals as goal

pub returns-clause-forest : goal.returns-clause-forest
returns-clause-forest c =
    let p = policy_of c.args.topo in
    points_lower p c.args.parents.now c.args.at _ c.requires.forest c.requires.there (low_twice p c.args.parents.now c.args.at c.requires.forest c.requires.there)
    (joined_twice p c.args.parents.now c.args.at c.requires.forest c.requires.there)

pub returns-clause-joined : goal.returns-clause-joined
returns-clause-joined c = joined_twice (policy_of c.args.topo) c.args.parents.now c.args.at c.requires.forest c.requires.there

pub returns-clause-roots : goal.returns-clause-roots
returns-clause-roots c = roots_stay c.args.parents.now c.args.at _ c.requires.no_root
