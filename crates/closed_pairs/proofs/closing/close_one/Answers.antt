use Rattle.std.proofs.Common.{◌∙◌, ℕ, List, ◌<◌, length, map, sym, subst, arith}
use Rattle.std.specs.List.{AllPairs, Contains}
use Rattle.std.proofs.lemmas.List.{length-map}
use Rattle.permit_set.specs.Shown.{permit_of}
use Rattle.nat_view.specs.Sights.{sight_of}
use Rattle.permit_lines.specs.Seen.{lines_of_covers}
use Rattle.closed_pairs.specs.Seen.{pair_seen, nets_seen}
use Rattle.closed_pairs.specs.Reaching.{AreBelow, PairNumbers}
use Rattle.closed_pairs.specs.Flags.{is_reached, key_of, IsKeyBefore}
use Rattle.closed_pairs.proofs.Marking.{mark_none, mark_kept, mark_set, at_index, place_is, reached_at}
use Rattle.closed_pairs.proofs.Searching.{all_pairs_map}
use Rattle.closed_pairs.proofs.closing.close_one.Goals as goal

pub place_of-requires : goal.place_of-requires
place_of-requires c = subst (AllPairs IsKeyBefore) (sym c.requires.keys) (all_pairs_map IsKeyBefore key_of (map pair_seen c.args.pairs.now) c.requires.given.order)

pub returns-in_default : goal.returns-in_default
returns-in_default c =
    let sight = sight_of c.args.view in
    mark_none (map pair_seen c.args.pairs.now) (is_reached sight.policy sight.tags (map permit_of c.args.permits.now) (lines_of_covers c.args.lines.now)) (nets_seen c.args.inner) c.args.flags.now
    (λ there. c.in_default.ensures.none (subst (λ (keys : List (ℕ × ℕ)). Contains keys (c.args.inner.0.0, c.args.inner.1.0)) (sym c.requires.keys) there))

pub returns-then-flags-k : goal.returns-then-flags-k
returns-then-flags-k c =
    let sight = sight_of c.args.view in
    let ps = map pair_seen c.args.pairs.now in
    let at = place_is ps c.args.keys.now c.in-Some.k (c.args.inner.0.0, c.args.inner.1.0) c.requires.keys (c.in-Some.ensures {u = tt}).below (c.in-Some.ensures {u = tt}).is in
    mark_kept ps (is_reached sight.policy sight.tags (map permit_of c.args.permits.now) (lines_of_covers c.args.lines.now)) (nets_seen c.args.inner) c.args.flags.now c.requires.given.order c.in-Some.k at c.if-flags-k.true

pub reaches_in-requires-clause-inner : goal.reaches_in-requires-clause-inner
reaches_in-requires-clause-inner c =
    let ps = map pair_seen c.args.pairs.now in
    let at = place_is ps c.args.keys.now c.in-Some.k (c.args.inner.0.0, c.args.inner.1.0) c.requires.keys (c.in-Some.ensures {u = tt}).below (c.in-Some.ensures {u = tt}).is in
    let n = length-map c.args.pairs.now pair_seen in
    let low = at.there in
    at_index pair_seen (AreBelow (length c.args.permits.now)) c.args.pairs.now c.in-Some.k _ (omega (arith, low, n)) c.requires.given.below

pub reaches_in-requires-clause-src : goal.reaches_in-requires-clause-src
reaches_in-requires-clause-src c =
    let ps = map pair_seen c.args.pairs.now in
    let at = place_is ps c.args.keys.now c.in-Some.k (c.args.inner.0.0, c.args.inner.1.0) c.requires.keys (c.in-Some.ensures {u = tt}).below (c.in-Some.ensures {u = tt}).is in
    let n = length-map c.args.pairs.now pair_seen in
    let low = at.there in
    let p = (sight_of c.args.view).policy in
    at_index pair_seen (λ (e : PairNumbers). e.pair.src < length p.nets) c.args.pairs.now c.in-Some.k _ (omega (arith, low, n)) (λ k d h. (c.requires.given.there k d h).src)

pub reaches_in-requires-clause-dst : goal.reaches_in-requires-clause-dst
reaches_in-requires-clause-dst c =
    let ps = map pair_seen c.args.pairs.now in
    let at = place_is ps c.args.keys.now c.in-Some.k (c.args.inner.0.0, c.args.inner.1.0) c.requires.keys (c.in-Some.ensures {u = tt}).below (c.in-Some.ensures {u = tt}).is in
    let n = length-map c.args.pairs.now pair_seen in
    let low = at.there in
    let p = (sight_of c.args.view).policy in
    at_index pair_seen (λ (e : PairNumbers). e.pair.dst < length p.nets) c.args.pairs.now c.in-Some.k _ (omega (arith, low, n)) (λ k d h. (c.requires.given.there k d h).dst)

pub returns : goal.returns
returns c =
    let sight = sight_of c.args.view in
    let ps = map pair_seen c.args.pairs.now in
    let at = place_is ps c.args.keys.now c.in-Some.k (c.args.inner.0.0, c.args.inner.1.0) c.requires.keys (c.in-Some.ensures {u = tt}).below (c.in-Some.ensures {u = tt}).is in
    let n = length-map c.args.pairs.now pair_seen in
    let R = is_reached sight.policy sight.tags (map permit_of c.args.permits.now) (lines_of_covers c.args.lines.now) in
    mark_set ps R (nets_seen c.args.inner) c.args.flags.now c.requires.given.order c.in-Some.k at (c.requires.flags ∙ sym n) c.if-flags-k.false c.in_ok-flags.field-0
    (reached_at R c.args.pairs.now c.in-Some.k _ c.in_ok-flags.field-0 at.there c.in_ok-flags.ensures)
