use Rattle.std.proofs.Common.{map, get_or}
use Rattle.std.proofs.lemmas.List.{get_or_default}
use Rattle.static_routes.specs.Tables.{zones_named}
use Rattle.static_routes.proofs.Filing.{filed_none, filed_more, key_is}
use Rattle.static_routes.proofs.tables.places_of.Goals as goal

pub loop-k-init : goal.loop-k-init
loop-k-init c = filed_none (map zones_named c.args.tables.now) c.new-places.result c.new-places.ensures.empty

pub loop-k-preserved : goal.loop-k-preserved
loop-k-preserved c =
    let tables = c.args.tables.now in
    let k = c.loop-k.k in
    let first = get_or tables k c.index-tables-k.result in
    let second = get_or tables k c.index-tables-k-in-loop-k.result in
    filed_more (map zones_named tables) c.loop-k.k (first.from.0, second.to.0) c.loop-k.places c.insert.new.self
    (key_is tables c.loop-k.k first second c.loop-k-test.true (get_or_default tables k c.index-tables-k.result first c.loop-k-test.true) (get_or_default tables k c.index-tables-k-in-loop-k.result second c.loop-k-test.true)) (c.in_ok-insert.ensures {u = tt}).updates.0 c.loop-k.invariant
