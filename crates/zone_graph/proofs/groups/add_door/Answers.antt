use Rattle.std.proofs.Common.{◌∙◌, ◌<◌, ◌&&◌, Bool, ℕ, refl, slice_index, subst, sym, ap, arith}
use Rattle.std.specs.Prelude.{◌==◌}
use Rattle.std.proofs.lemmas.List.{length-map}
use Rattle.policy_model.specs.Policy.{net_at, router_at, is_managed}
use Rattle.topology.specs.View.{policy_of}
use Rattle.zone_graph.specs.Grouped.{row_items}
use Rattle.zone_graph.proofs.Filled.{put_in, put_none}
use Rattle.zone_graph.proofs.groups.add_door.Goals as goal

pub returns-then-not-is_door-clause-groups : goal.returns-then-not-is_door-clause-groups
returns-then-not-is_door-clause-groups c =
    let p = policy_of c.args.topo in
    let zones = c.args.zones.now in
    put_none (λ i. i.0) (row_items c.args.rows.now) (λ w i. is_managed p (router_at p i) && (slice_index zones (net_at p i) == w)) c.args.i
    (λ w. ap (λ (b : Bool). b && (slice_index zones (net_at p c.args.i) == w)) (sym c.is_door.ensures ∙ c.if-not-is_door.true)) c.requires.so_far

pub returns-clause-groups : goal.returns-clause-groups
returns-clause-groups c =
    let p = policy_of c.args.topo in
    let zones = c.args.zones.now in
    let fits = c.requires.zones c.net_of-n.result (omega (arith, c.net_of-n.ensures.below, c.requires.each)) in
    put_in (λ i. i.0) (row_items c.args.rows.now) (row_items c.add.new.rows) (λ w i. is_managed p (router_at p i) && (slice_index zones (net_at p i) == w)) c.args.i
    (slice_index zones c.net_of-n.result) (record { 0 = c.args.i })
    (subst (λ (x : ℕ). slice_index zones c.net_of-n.result < x) (sym (length-map c.args.rows.now (λ r. r.items))) fits) c.in_ok-add.ensures.put refl
    (λ w. ap (λ (b : Bool). b && (slice_index zones (net_at p c.args.i) == w)) (sym c.is_door.ensures ∙ c.if-not-is_door.false)
    ∙ ap (λ (x : ℕ). slice_index zones x == w) (sym c.net_of-n.ensures.value)) c.requires.so_far
