use Rattle.std.proofs.Common.{◌∙◌, ◌<◌, ℕ, refl, slice_index, subst, sym, arith}
use Rattle.std.specs.Prelude.{◌==◌}
use Rattle.std.proofs.lemmas.List.{length-map}
use Rattle.zone_graph.specs.Grouped.{row_items}
use Rattle.zone_graph.proofs.Filled.{put_in}
use Rattle.zone_graph.proofs.groups.fill_nets.Goals as goal

pub loop-n-preserved : goal.loop-n-preserved
loop-n-preserved c =
    let zone = slice_index c.args.zones.now c.loop-n.n in
    let fits = c.requires.zones c.loop-n.n (omega (arith, c.loop-n-test.true)) in (
      c.add.ensures.count ∙ c.loop-n.invariant.0,
      put_in (λ n. n.0) (row_items c.loop-n.rows) (row_items c.add.new.rows) (λ w n. slice_index c.args.zones.now n == w) c.loop-n.n zone (record { 0 = c.loop-n.n })
          (subst (λ (x : ℕ). zone < x) (sym (length-map c.loop-n.rows (λ r. r.items))) (omega (arith, fits, c.loop-n.invariant.0))) c.in_ok-add.ensures.put refl (λ w. refl) c.loop-n.invariant.1,
    )
