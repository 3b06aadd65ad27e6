-- What an error of building says.
use Rattle.std.specs.Prelude.{◌≡◌, ℕ, ◌+◌}
use Rattle.policy_model.specs.Policy.{Policy}
use Rattle.policy_model.specs.Tags.{Views}
use Rattle.policy_model.specs.FirstFault.{ViewPlace, AtZone, AtRouter}
use Rattle.subnet_tree.specs.declared.fail.TreeFail.{TreeFail}
use Rattle.subnet_tree.specs.declared.fail.TreeFail.TheVariants as tree
use Rattle.nat_view.specs.Seen.{AreFirstSame}
use Rattle.nat_view.specs.declared.fail.ViewAt.{ViewAt}
use Rattle.nat_view.specs.declared.fail.ViewAt.TheVariants as at
use Rattle.nat_view.specs.declared.fail.ViewFail.{ViewFail}
use Rattle.nat_view.specs.declared.fail.ViewFail.TheVariants.{Same, Memory}

abbrev pub place_seen : ViewAt → ViewPlace
place_seen (at.Zone z) = AtZone z.0
place_seen (at.Router r) = AtRouter r.0

-- the number of a place, all zones coming before all routers
abbrev pub place_number : ℕ → ViewAt → ℕ
place_number zones (at.Zone z) = z.0
place_number zones (at.Router r) = zones + r.0

-- the failure of a tree, at its place
abbrev pub IsFailAt : ViewPlace → TreeFail → ViewFail → Type 0
IsFailAt at (tree.Same n m) (Same place first second) = (place_seen place ≡ at) × (first ≡ n) × (second ≡ m)
IsFailAt at tree.Memory Memory = Unit {0}
IsFailAt at _ _ = ⊥

-- The two networks are the least ones with one prefix in the first view that has such. Want of memory says nothing.
abbrev pub RefusesViews : Policy → Views → ViewFail → Type 0
RefusesViews p v (Same place n m) = AreFirstSame p v (place_seen place) n.0 m.0
RefusesViews p v Memory = Unit {0}
