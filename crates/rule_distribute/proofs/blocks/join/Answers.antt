use Rattle.std.proofs.Common.{◌∙◌, length, map, sym, subst}
use Rattle.std.proofs.lemmas.List.{length-map}
use Rattle.topology.specs.View.{policy_of}
use Rattle.zone_graph.specs.Grouped.{row_items}
use Rattle.nat_view.specs.Views.{seen_of}
use Rattle.permit_set.specs.Shown.{permit_of}
use Rattle.permit_lines.specs.Given.{site_with}
use Rattle.rule_distribute.specs.Rows.{HasAll}
use Rattle.rule_distribute.proofs.Joining.{are_pairs, have_rows}
use Rattle.rule_distribute.proofs.blocks.join.Goals as goal

pub permit_rows-requires-clause-all : goal.permit_rows-requires-clause-all
permit_rows-requires-clause-all c =
    subst (λ ps. HasAll c.args.graph.now.zones ps (map permit_of c.args.permits.now)) (sym c.deref.ensures.value) (c.in_ok-pairs.ensures {u = tt}).all

pub permit_rows-requires-2-clause-all : goal.permit_rows-requires-2-clause-all
permit_rows-requires-2-clause-all c =
    subst (λ ps. HasAll c.args.graph.now.zones ps (map permit_of c.args.permits.now)) (sym c.deref-2.ensures.value) (c.in_ok-pairs.ensures {u = tt}).all

pub returns-clause-pairs : goal.returns-clause-pairs
returns-clause-pairs c =
    let permits = c.args.permits.now in
    are_pairs (site_with (policy_of c.args.topo) c.args.graph.now) (seen_of c.args.views.now).views (map permit_of permits) c.in_ok-pairs.pairs.items c.deref.result.now c.deref-2.result.now (row_items c.in_ok-forward.forward.items)
    (row_items c.in_ok-replied.replied.items) (length permits) (sym (length-map permits permit_of)) (c.in_ok-pairs.ensures {u = tt}).pairs c.deref.ensures.value c.deref-2.ensures.value
    (length-map c.in_ok-forward.forward.items (λ r. r.items) ∙ (c.in_ok-forward.ensures {u = tt}).each)
    (length-map c.in_ok-replied.replied.items (λ r. r.items) ∙ (c.in_ok-replied.ensures {u = tt}).each) (c.in_ok-forward.ensures {u = tt}).groups (c.in_ok-replied.ensures {u = tt}).groups

pub returns-clause-rows : goal.returns-clause-rows
returns-clause-rows c =
    let permits = c.args.permits.now in
    let s = site_with (policy_of c.args.topo) c.args.graph.now in
    let v = (seen_of c.args.views.now).views in
    have_rows s v (map permit_of permits) _ (returns-clause-pairs c)
