use Rattle.std.proofs.Common.{◌∙◌, ap, length, map}
use Rattle.nat_view.specs.Sights.{sight_of}
use Rattle.permit_set.specs.Shown.{permit_of}
use Rattle.closed_pairs.specs.Seen.{pair_seen}
use Rattle.rule_distribute.specs.Shown.{pairs_seen}
use Rattle.rule_distribute.proofs.Flagged.{are_below, are_there, in_order, flag_each, places_are}
use Rattle.rule_distribute.proofs.closed.closed_places.Goals as goal

pub closed_among-requires-clause-below : goal.closed_among-requires-clause-below
closed_among-requires-clause-below c =
    are_below (pairs_seen c.args.joined.now) c.args.told c.args.row.now c.deref.result.now (ap (map pair_seen) c.deref.ensures.value ∙ c.in_ok-pairs.ensures {u = tt}) c.requires.below (length c.args.permits.now) c.requires.numbers

pub closed_among-requires-clause-there : goal.closed_among-requires-clause-there
closed_among-requires-clause-there c =
    are_there (pairs_seen c.args.joined.now) c.args.told c.args.row.now c.deref.result.now (ap (map pair_seen) c.deref.ensures.value ∙ c.in_ok-pairs.ensures {u = tt}) c.requires.below (sight_of c.args.view).policy c.requires.rows

pub closed_among-requires-clause-order : goal.closed_among-requires-clause-order
closed_among-requires-clause-order c =
    in_order (pairs_seen c.args.joined.now) c.args.told c.args.row.now c.deref.result.now (ap (map pair_seen) c.deref.ensures.value ∙ c.in_ok-pairs.ensures {u = tt}) c.requires.below c.requires.order c.requires.rising

pub with_flags-requires : goal.with_flags-requires
with_flags-requires c =
    let sight = sight_of c.args.view in
    flag_each (pairs_seen c.args.joined.now) c.args.told c.args.row.now c.deref.result.now (ap (map pair_seen) c.deref.ensures.value ∙ c.in_ok-pairs.ensures {u = tt})
    sight.policy sight.tags (map permit_of c.args.permits.now) c.deref-2.result.now (c.deref-2.ensures.value ∙ c.in_ok-flags.ensures {u = tt})

pub returns : goal.returns
returns c =
    let sight = sight_of c.args.view in
    let done = c.in_ok-places.ensures {u = tt} in
    places_are (pairs_seen c.args.joined.now) c.args.told c.args.row.now c.deref.result.now (ap (map pair_seen) c.deref.ensures.value ∙ c.in_ok-pairs.ensures {u = tt})
    sight.policy sight.tags (map permit_of c.args.permits.now) c.deref-2.result.now (c.deref-2.ensures.value ∙ c.in_ok-flags.ensures {u = tt})
    c.in_ok-places.places.items done.places done.flags
