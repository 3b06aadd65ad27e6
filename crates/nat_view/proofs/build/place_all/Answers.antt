use Rattle.std.proofs.Common.{◌+◌, ◌<◌, length, sym, subst, arith}
use Rattle.std.proofs.lemmas.List.{length-append}
use Rattle.policy_model.specs.Faults.{all_views}
use Rattle.topology.specs.View.{policy_of}
use Rattle.nat_view.specs.Places.{ArePlaced, HasTable, place_at}
use Rattle.nat_view.specs.Fails.{IsFailAt}
use Rattle.nat_view.specs.Shown.{numbers_of}
use Rattle.nat_view.proofs.Placing.{one_place_more, refused_at}
use Rattle.nat_view.proofs.build.place_all.Goals as goal

pub returns-in-Err-clause-refused : goal.returns-in-Err-clause-refused
returns-in-Err-clause-refused c =
    let v = c.args.tags.now in
    refused_at (policy_of c.args.topo) v c.loop-k.tables.items c.loop-k.places.items c.loop-k.k (numbers_of c.row_at-row.result.now) c.in-Err.fail c.fail_at.result c.loop-k.invariant
    (omega (arith, c.loop-k-test.true, c.requires.count)) c.row_at-row.ensures (c.in-Err.ensures {u = tt}).fail (subst (λ z. IsFailAt (place_at z c.loop-k.k) c.in-Err.fail c.fail_at.result) c.requires.zones c.fail_at.ensures)

pub loop-k-preserved : goal.loop-k-preserved
loop-k-preserved c =
    let v = c.args.tags.now in
    let p = policy_of c.args.topo in
    let old = c.loop-k.tables.items in
    let new = c.place_of.new.tables.items in
    let n = length-append v.zones v.routers in
    let lt : c.loop-k.k < length (all_views v) = omega (arith, c.loop-k-test.true, c.requires.count, n) in
    let has = subst (λ tags. HasTable p tags old new c.in-Ok.place) c.row_at-row.ensures (c.in-Ok.ensures {u = tt}).table in
    subst (λ places. ArePlaced p (all_views v) new places (c.loop-k.k + 1)) (sym (c.in_ok-push-in-Ok.ensures {u = tt}).items) (one_place_more p (all_views v) old new c.loop-k.places.items c.loop-k.k c.in-Ok.place c.loop-k.invariant lt has)
