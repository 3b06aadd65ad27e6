use Rattle.policy_model.specs.Faults.{all_views}
use Rattle.topology.specs.View.{policy_of}
use Rattle.nat_view.specs.Places.{ArePlaced}
use Rattle.nat_view.proofs.build.place_all.Given as goal

abbrev pub invariant-loop-k : goal.invariant-loop-k
invariant-loop-k l = ArePlaced (policy_of l.topo) (all_views l.tags) l.tables.items l.places.items l.k
