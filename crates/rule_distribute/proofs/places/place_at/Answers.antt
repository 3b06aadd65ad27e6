use Rattle.std.proofs.Common.{◌≡◌, ◌∙◌, ◌<◌, ℕ, Bool, List, length, map, subst, sym, ap, arith}
use Rattle.std.specs.Prelude.{filter}
use Rattle.std.proofs.lemmas.List.{length-map}
use Rattle.std.specs.List.{All, AllPairs}
use Rattle.policy_model.specs.Policy.{Policy, net_at}
use Rattle.policy_model.specs.Blocks.{places_replies_at, view_here}
use Rattle.policy_laws.proofs.InnerViews.{zone_below}
use Rattle.topology.specs.View.{policy_of}
use Rattle.nat_view.specs.Seen.{Sight}
use Rattle.nat_view.specs.Sights.{sight_of}
use Rattle.nat_view.specs.Views.{seen_of}
use Rattle.permit_set.specs.Shown.{permit_of}
use Rattle.permit_lines.specs.Given.{site_with, AreKnown}
use Rattle.rule_distribute.specs.Paths.{is_on_way, path_row}
use Rattle.rule_distribute.specs.Placed.{HaveRows, is_seen_at, is_shut, told_closed, placed}
use Rattle.rule_distribute.specs.Shown.{pairs_seen}
use Rattle.rule_distribute.proofs.Buckets.{way_below, way_rising, seen_below, seen_rising, marked_below, group_is}
use Rattle.rule_distribute.proofs.Joining.{have_rows, pairs_in_order, are_less}
use Rattle.rule_distribute.proofs.Placing.{placed_is}
use Rattle.rule_distribute.proofs.Sighted.{keeps}
use Rattle.rule_distribute.proofs.places.place_at.Goals as goal

pub seen_row-requires-clause-rows : goal.seen_row-requires-clause-rows
seen_row-requires-clause-rows c =
    let s = site_with (policy_of c.args.topo) c.args.graph.now in
    let j = pairs_seen c.args.joined.now in
    let policy = ap (λ (s : Sight). s.policy) c.view_at-view.ensures ∙ c.requires.policy in
    subst (λ (p : Policy). HaveRows p j) (sym policy) (have_rows s (seen_of c.args.views.now).views (map permit_of c.args.permits.now) j c.requires.joined)

pub seen_row-requires-clause-below : goal.seen_row-requires-clause-below
seen_row-requires-clause-below c =
    let s = site_with (policy_of c.args.topo) c.args.graph.now in
    let pairs = c.args.joined.now.pairs.items in
    let i = c.args.i.0 in
    let below : i < length c.args.rows.now = omega (arith, c.requires.iface, c.requires.each) in
    let same = group_is c.args.rows.now (path_row s pairs (length pairs)) i c.index-rows-i.result c.deref.result.now c.requires.on_path below c.index-rows-i.is c.deref.ensures.value in
    way_below (is_on_way s pairs i) (length pairs) c.deref.result.now same

pub closed_places-requires-clause-known : goal.closed_places-requires-clause-known
closed_places-requires-clause-known c =
    let permits = map permit_of c.args.permits.now in
    let policy = ap (λ (s : Sight). s.policy) c.view_at-view.ensures ∙ c.requires.policy in
    subst (λ (p : Policy). AreKnown p permits) (sym policy) c.requires.permits

pub closed_places-requires-clause-rows : goal.closed_places-requires-clause-rows
closed_places-requires-clause-rows c =
    let s = site_with (policy_of c.args.topo) c.args.graph.now in
    let j = pairs_seen c.args.joined.now in
    let policy = ap (λ (s : Sight). s.policy) c.view_at-view.ensures ∙ c.requires.policy in
    subst (λ (p : Policy). HaveRows p j) (sym policy) (have_rows s (seen_of c.args.views.now).views (map permit_of c.args.permits.now) j c.requires.joined)

pub closed_places-requires-clause-numbers : goal.closed_places-requires-clause-numbers
closed_places-requires-clause-numbers c =
    are_less (site_with (policy_of c.args.topo) c.args.graph.now) (seen_of c.args.views.now).views (map permit_of c.args.permits.now) (pairs_seen c.args.joined.now) c.requires.joined (length c.args.permits.now) (sym (length-map c.args.permits.now permit_of))

pub closed_places-requires-clause-order : goal.closed_places-requires-clause-order
closed_places-requires-clause-order c =
    pairs_in_order (site_with (policy_of c.args.topo) c.args.graph.now) (seen_of c.args.views.now).views (map permit_of c.args.permits.now) (pairs_seen c.args.joined.now) c.requires.joined

pub closed_places-requires-clause-below : goal.closed_places-requires-clause-below
closed_places-requires-clause-below c =
    let s = site_with (policy_of c.args.topo) c.args.graph.now in
    let pairs = c.args.joined.now.pairs.items in
    let i = c.args.i.0 in
    let below : i < length c.args.rows.now = omega (arith, c.requires.iface, c.requires.each) in
    let same = group_is c.args.rows.now (path_row s pairs (length pairs)) i c.index-rows-i.result c.deref.result.now c.requires.on_path below c.index-rows-i.is c.deref.ensures.value in
    let sight = sight_of c.view_at-view.result in
    seen_below (is_on_way s pairs i) (length pairs) c.deref.result.now (is_seen_at sight.policy sight.tags (pairs_seen c.args.joined.now)) c.deref-2.result.now same (c.deref-2.ensures.value ∙ c.in_ok-row.ensures {u = tt})

pub closed_places-requires-clause-rising : goal.closed_places-requires-clause-rising
closed_places-requires-clause-rising c =
    let s = site_with (policy_of c.args.topo) c.args.graph.now in
    let pairs = c.args.joined.now.pairs.items in
    let i = c.args.i.0 in
    let below : i < length c.args.rows.now = omega (arith, c.requires.iface, c.requires.each) in
    let same = group_is c.args.rows.now (path_row s pairs (length pairs)) i c.index-rows-i.result c.deref.result.now c.requires.on_path below c.index-rows-i.is c.deref.ensures.value in
    let sight = sight_of c.view_at-view.result in
    seen_rising (is_on_way s pairs i) (length pairs) c.deref.result.now (is_seen_at sight.policy sight.tags (pairs_seen c.args.joined.now)) c.deref-2.result.now same (c.deref-2.ensures.value ∙ c.in_ok-row.ensures {u = tt})

pub placement_of-requires-clause-rows : goal.placement_of-requires-clause-rows
placement_of-requires-clause-rows c =
    have_rows (site_with (policy_of c.args.topo) c.args.graph.now) (seen_of c.args.views.now).views (map permit_of c.args.permits.now) (pairs_seen c.args.joined.now) c.requires.joined

pub placement_of-requires-clause-below : goal.placement_of-requires-clause-below
placement_of-requires-clause-below c =
    let s = site_with (policy_of c.args.topo) c.args.graph.now in
    let pairs = c.args.joined.now.pairs.items in
    let i = c.args.i.0 in
    let below : i < length c.args.rows.now = omega (arith, c.requires.iface, c.requires.each) in
    let same = group_is c.args.rows.now (path_row s pairs (length pairs)) i c.index-rows-i.result c.deref.result.now c.requires.on_path below c.index-rows-i.is c.deref.ensures.value in
    let sight = sight_of c.view_at-view.result in
    let low = seen_below (is_on_way s pairs i) (length pairs) c.deref.result.now (is_seen_at sight.policy sight.tags (pairs_seen c.args.joined.now)) c.deref-2.result.now same (c.deref-2.ensures.value ∙ c.in_ok-row.ensures {u = tt}) in
    marked_below (length pairs) (is_shut sight.policy sight.tags (map permit_of c.args.permits.now) (pairs_seen c.args.joined.now) c.places_replies_at-told.result c.deref-2.result.now) c.deref-2.result.now c.deref-3.result.now
    (c.deref-3.ensures.value ∙ c.in_ok-places.ensures {u = tt}) low

pub returns-clause-blocks : goal.returns-clause-blocks
returns-clause-blocks c =
    let p = policy_of c.args.topo in
    let s = site_with p c.args.graph.now in
    let v = (seen_of c.args.views.now).views in
    let permits = map permit_of c.args.permits.now in
    let j = pairs_seen c.args.joined.now in
    let pairs = c.args.joined.now.pairs.items in
    let i = c.args.i.0 in
    let told = c.places_replies_at-told.result in
    let view = view_here s v permits i in
    let below : i < length c.args.rows.now = omega (arith, c.requires.iface, c.requires.each) in
    let same = group_is c.args.rows.now (path_row s pairs (length pairs)) i c.index-rows-i.result c.deref.result.now c.requires.on_path below c.index-rows-i.is c.deref.ensures.value in
    let policy : (sight_of c.view_at-view.result).policy ≡ p = ap (λ (s : Sight). s.policy) c.view_at-view.ensures ∙ c.requires.policy in
    let tags : (sight_of c.view_at-view.result).tags ≡ view = ap (λ (s : Sight). s.tags) c.view_at-view.ensures in
    let sight = sight_of c.view_at-view.result in
    let row = c.deref-2.ensures.value ∙ c.in_ok-row.ensures {u = tt} in
    let places = c.deref-3.ensures.value ∙ c.in_ok-places.ensures {u = tt} in
    (c.in_ok-place.ensures {u = tt}).blocks
    ∙ (ap (placed p j told) places
    ∙ (ap (λ (ws : List ℕ). placed p j told (told_closed sight.policy sight.tags permits j told ws)) row
    ∙ (ap (λ (q : Policy). placed p j told (told_closed q sight.tags permits j told (filter (is_seen_at q sight.tags j) c.deref.result.now))) policy
    ∙ (ap (λ (t : List ℕ). placed p j told (told_closed p t permits j told (filter (is_seen_at p t j) c.deref.result.now))) tags
    ∙ (ap (λ (b : Bool). placed p j b (told_closed p view permits j b (filter (is_seen_at p view j) c.deref.result.now))) c.places_replies_at-told.ensures
    ∙ (ap (λ (ws : List ℕ). placed p j (places_replies_at p i) (told_closed p view permits j (places_replies_at p i) (filter (is_seen_at p view j) ws))) same
    ∙ placed_is s v permits i j
    (record {
      pairs = c.requires.joined;
      lengths = keeps c.args.topo view;
      zone = zone_below s c.requires.graph.table (net_at p i) (c.args.topo.kept.sound.numbered.placed i c.requires.iface).0;
    })))))))
