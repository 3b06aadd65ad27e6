use Rattle.std.proofs.Common.{take}
use Rattle.nat_view.specs.Views.{seen_of}
use Rattle.nat_view.specs.Met.{AreNamed}
use Rattle.nat_view.proofs.views.Views.first_places.Given as goal

abbrev pub invariant-loop-k : goal.invariant-loop-k
invariant-loop-k l = AreNamed (seen_of l.self).views l.places.items (take l.k-index l.k-items)
