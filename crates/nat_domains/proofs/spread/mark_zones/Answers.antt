use Rattle.std.proofs.Common.{◌<◌, ◌∷◌, [], ℕ, List, length, take, sym, subst, arith, slice_index_or}
use Rattle.std.specs.Prelude.{◌==◌, map, slice_index}
use Rattle.std.proofs.lemmas.List.{length-map}
use Rattle.policy_model.specs.Policy.{router_at}
use Rattle.policy_model.specs.Tags.{ifaces_of}
use Rattle.topology.specs.View.{policy_of}
use Rattle.nat_domains.specs.Marks.{site_of}
use Rattle.nat_domains.specs.Spreading.{MarksZonesOf}
use Rattle.nat_domains.proofs.Members.{has_at, has_kept, at_row, one_more}
use Rattle.nat_domains.proofs.Marking.{both_marked}
use Rattle.nat_domains.proofs.spread.mark_zones.Goals as goal

pub mark_zone-requires-clause-there : goal.mark_zone-requires-clause-there
mark_zone-requires-clause-there c =
    let p = policy_of c.args.topo in
    let ids = c.ifs_of-i-items.result.now in
    let row = ifaces_of p c.args.r.0 in
    let k = c.loop-i.i-index in
    let here : k < length row = subst (λ (xs : List ℕ). k < length xs) c.ifs_of-i-items.ensures (subst (λ (n : ℕ). k < n) (sym (length-map ids (λ i. i.0))) c.loop-i-test.true) in
    let w = has_kept (λ i. router_at p i == c.args.r.0) 0 (length p.ifaces) (slice_index row k) (has_at row k here) in
    subst (λ (x : ℕ). x < length p.ifaces) (sym (at_row (λ i. i.0) ids row (record { 0 = 0 }) c.ifs_of-i-items.ensures k)) (omega (arith, w.1))

pub loop-i-preserved : goal.loop-i-preserved
loop-i-preserved c =
    let s = site_of c.args.topo c.args.graph.now in
    let ids = c.ifs_of-i-items.result.now in
    let k = c.loop-i.i-index in
    subst (λ (xs : List ℕ). MarksZonesOf s c.args.tag.0 xs c.args.marks.now c.mark_zone.new.marks c.args.waiting.now.items c.mark_zone.new.waiting.items)
    (sym (one_more (λ i. i.0) ids (record { 0 = 0 }) k c.loop-i-test.true))
    (both_marked s c.args.tag.0 (map (λ i. i.0) (take k ids)) ((slice_index_or ids k (record { 0 = 0 })).0 ∷ []) c.args.marks.now c.loop-i.marks c.mark_zone.new.marks
    c.args.waiting.now.items c.loop-i.waiting.items c.mark_zone.new.waiting.items c.loop-i.invariant c.in_ok-mark_zone.ensures.marked)
