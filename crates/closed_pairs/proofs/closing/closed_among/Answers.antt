use Rattle.std.proofs.Common.{◌∙◌, length, map, sym, subst, arith}
use Rattle.std.proofs.lemmas.List.{take_all}
use Rattle.std.proofs.lemmas.List.Elements.{All-map}
use Rattle.permit_set.specs.Shown.{permit_of}
use Rattle.nat_view.specs.Sights.{sight_of}
use Rattle.closed_pairs.specs.Seen.{pair_seen}
use Rattle.closed_pairs.specs.Reaching.{AreBelow, AreThere, IsBefore, PairNumbers, is_closed_among}
use Rattle.closed_pairs.specs.Flags.{key_of, AreFlags}
use Rattle.closed_pairs.proofs.Marking.{flags_step, flags_end, map_twice}
use Rattle.closed_pairs.proofs.Searching.{all_pairs_map}
use Rattle.closed_pairs.proofs.closing.closed_among.Goals as goal

pub close_inside-requires-clause-given : goal.close_inside-requires-clause-given
close_inside-requires-clause-given c =
    let p = (sight_of c.args.view).policy in
    record {
      below = All-map (AreBelow (length c.args.permits.now)) pair_seen c.args.pairs.now c.requires.below;
      there = All-map (λ (e : PairNumbers). AreThere p e.pair) pair_seen c.args.pairs.now c.requires.there;
      order = all_pairs_map (λ (a b : PairNumbers). IsBefore a.pair b.pair) pair_seen c.args.pairs.now c.requires.order;
    }

pub close_inside-requires-clause-keys : goal.close_inside-requires-clause-keys
close_inside-requires-clause-keys c = c.deref.ensures.value ∙ (c.in_ok-keys.ensures ∙ sym (map_twice key_of pair_seen c.args.pairs.now))

pub close_inside-requires-clause-outer : goal.close_inside-requires-clause-outer
close_inside-requires-clause-outer c = c.requires.below c.loop-outer.outer-index _ c.loop-outer-test.true

pub loop-outer-preserved : goal.loop-outer-preserved
loop-outer-preserved c =
    let sight = sight_of c.args.view in
    let old = c.loop-outer.flags.items in
    flags_step sight.policy sight.tags (map permit_of c.args.permits.now) (map pair_seen c.args.pairs.now) c.args.pairs.now c.loop-outer.outer-index _ old c.deref_mut.result.now c.close_inside.new.flags c.loop-outer.flags.len
    c.loop-outer-test.true c.loop-outer.invariant c.deref_mut.ensures.value c.in_ok-close_inside.ensures (omega (arith, c.loop-outer.flags.ok.0))

pub returns : goal.returns
returns c =
    let sight = sight_of c.args.view in
    let permits = map permit_of c.args.permits.now in
    let pairs = c.args.pairs.now in
    let ps = map pair_seen pairs in
    let all = subst (λ xs. AreFlags (is_closed_among sight.policy sight.tags permits (map pair_seen xs)) ps c.loop-outer.flags.items) (take_all c.loop-outer.outer-index pairs c.loop-outer-test.false) c.loop-outer.invariant in
    flags_end sight.policy sight.tags permits ps c.loop-outer.flags.items all ∙ map_twice (is_closed_among sight.policy sight.tags permits ps) pair_seen pairs
