use Rattle.nat_view.specs.Sights.{sight_of}
use Rattle.shadow_checks.proofs.Moved.{of_one}
use Rattle.shadow_checks.proofs.least.address_shadow.Goals as goal

pub returns : goal.returns
returns c = let s = sight_of c.args.view in of_one s.policy s.tags c.args.n.0 c.args.a.0 c.in_ok-seen.seen.0 c.requires.inside c.in_ok-seen.ensures c.other_place.result c.other_place.ensures
