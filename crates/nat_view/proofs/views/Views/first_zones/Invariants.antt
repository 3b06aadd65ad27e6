use Rattle.std.proofs.Common.{◌≡◌, map, take}
use Rattle.nat_view.proofs.views.Views.first_zones.Given as goal

abbrev pub invariant-loop-k : goal.invariant-loop-k
invariant-loop-k l = map (λ z. z.0) l.zones.items ≡ take l.k-index l.k-items
