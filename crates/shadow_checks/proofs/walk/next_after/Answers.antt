use Rattle.nat_view.specs.Sights.{sight_of}
use Rattle.spoc_base.specs.Shown.{cidr_of}
use Rattle.shadow_checks.proofs.Walking.{past_end, placed_below, placed_seen}
use Rattle.shadow_checks.proofs.walk.next_after.Goals as goal

pub prefix_in-requires-clause-there : goal.prefix_in-requires-clause-there
prefix_in-requires-clause-there c =
    let s = sight_of c.args.view in placed_below s.policy s.tags c.requires.nets c.requires.apart c.in-Some.k.0 c.args.at c.in-Some.ensures

pub prefix_in-requires-clause-seen : goal.prefix_in-requires-clause-seen
prefix_in-requires-clause-seen c = let s = sight_of c.args.view in placed_seen s.policy s.tags c.in-Some.k.0 c.args.at c.in-Some.ensures

pub returns-in-Some-2 : goal.returns-in-Some-2
returns-in-Some-2 c =
    let s = sight_of c.args.view in
    past_end s.policy s.tags c.requires.nets c.requires.apart c.args.m.0 c.in-Some.k.0 c.args.at c.end_of.result (cidr_of c.prefix_in.result) c.requires.there c.requires.held c.in-Some.ensures c.if-k-m.false c.prefix_in.ensures c.end_of.ensures
