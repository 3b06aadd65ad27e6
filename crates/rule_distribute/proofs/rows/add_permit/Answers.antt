use Rattle.std.proofs.Common.{◌≡◌, ◌∙◌, ◌<◌, false, ℕ, map, refl, sym, ap, subst, arith, slice_index}
use Rattle.std.specs.Prelude.{◌==◌}
use Rattle.std.specs.List.{Contains}
use Rattle.std.proofs.lemmas.List.{length-map}
use Rattle.policy_model.specs.Permits.{Permit}
use Rattle.policy_model.specs.Blocks.{permit_at}
use Rattle.topology.specs.View.{policy_of}
use Rattle.zone_graph.specs.Grouped.{row_items}
use Rattle.permit_set.specs.Shown.{permit_of}
use Rattle.rule_distribute.specs.Rows.{ends_of, belongs}
use Rattle.rule_distribute.proofs.Ends.{src_there, dst_there, at_place}
use Rattle.rule_distribute.proofs.Filled.{put_in, put_none}
use Rattle.rule_distribute.proofs.rows.add_permit.Goals as goal

pub row_of-requires-clause-src : goal.row_of-requires-clause-src
row_of-requires-clause-src c =
    subst (λ (n : ℕ). c.index-permits-k.result.src.net.0 < n) (sym c.requires.graph.table.each)
    (src_there (policy_of c.args.topo) c.args.permits.now c.requires.permits c.args.k c.index-permits-k.result c.requires.below c.index-permits-k.is)

pub row_of-requires-clause-dst : goal.row_of-requires-clause-dst
row_of-requires-clause-dst c =
    subst (λ (n : ℕ). c.index-permits-k.result.dst.net.0 < n) (sym c.requires.graph.table.each)
    (dst_there (policy_of c.args.topo) c.args.permits.now c.requires.permits c.args.k c.index-permits-k.result c.requires.below c.index-permits-k.is)

pub row_of-requires-clause-there : goal.row_of-requires-clause-there
row_of-requires-clause-there c =
    let zones = c.args.graph.now.zones in
    let n = length-map c.args.permits.now permit_of in
    λ b differ.
    subst (λ (q : Permit). (slice_index zones q.src.net == slice_index zones q.dst.net) ≡ false → Contains c.args.pairs.now (ends_of b q))
    (at_place c.args.permits.now c.args.k c.index-permits-k.result c.requires.below c.index-permits-k.is)
    (c.requires.all c.args.k b (omega (arith, c.requires.below, n))) differ

pub returns-in_ok-add-in-Some-clause-groups : goal.returns-in_ok-add-in-Some-clause-groups
returns-in_ok-add-in-Some-clause-groups c =
    let zones = c.args.graph.now.zones in
    let permits = map permit_of c.args.permits.now in
    let n = length-map c.args.rows.now (λ r. r.items) in
    put_in (λ k. k) (row_items c.args.rows.now) (row_items c.add.new.rows) (λ w k. belongs zones c.args.pairs.now c.args.back (permit_at permits k) w) c.args.k c.in-Some.w c.args.k
    (omega (arith, (c.in-Some.ensures {u = tt}).below, c.requires.each, n)) (c.in_ok-add-in-Some.ensures {u = tt}).put refl
    (λ w. ap (λ (q : Permit). belongs zones c.args.pairs.now c.args.back q w) (at_place c.args.permits.now c.args.k c.index-permits-k.result c.requires.below c.index-permits-k.is) ∙ (c.in-Some.ensures {u = tt}).row w)
    c.requires.so_far

pub returns-in-None-clause-groups : goal.returns-in-None-clause-groups
returns-in-None-clause-groups c =
    let zones = c.args.graph.now.zones in
    let permits = map permit_of c.args.permits.now in
    put_none (λ k. k) (row_items c.args.rows.now) (λ w k. belongs zones c.args.pairs.now c.args.back (permit_at permits k) w) c.args.k
    (λ w. ap (λ (q : Permit). belongs zones c.args.pairs.now c.args.back q w) (at_place c.args.permits.now c.args.k c.index-permits-k.result c.requires.below c.index-permits-k.is) ∙ (c.in-None.ensures {u = tt}).none w)
    c.requires.so_far
