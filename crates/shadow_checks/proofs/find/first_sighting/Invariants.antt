use Rattle.std.proofs.Common.{take}
use Rattle.topology.specs.View.{policy_of}
use Rattle.nat_view.specs.Views.{seen_of}
use Rattle.shadow_checks.specs.Sightings.{HaveNoPlaces}
use Rattle.shadow_checks.proofs.find.first_sighting.Given as goal

abbrev pub invariant-loop-k : goal.invariant-loop-k
invariant-loop-k l = HaveNoPlaces (policy_of l.topo) (seen_of l.views).views (take l.k l.places.items)
