use Rattle.std.proofs.Common.{◌≡◌, ◌∙◌, Bool, length, List, sym, subst, ap}
use Rattle.std.proofs.lemmas.List.{length-map}
use Rattle.group_expand.specs.Groups.{AreFilled}
use Rattle.group_expand.specs.Seen.{site_of}
use Rattle.group_expand.specs.Sets.{AreTables, host_rows, rows_seen}
use Rattle.group_expand.specs.Spread.{AreUnmarked}
use Rattle.group_expand.proofs.GroupOrder.{none_filled, rows_empty}
use Rattle.group_expand.proofs.Tables.{tables_of, rows_long, taken_back}
use Rattle.group_expand.proofs.group_sets.group_sets.Goals as goal

pub fill_sets-requires-clause-filled : goal.fill_sets-requires-clause-filled
fill_sets-requires-clause-filled c =
    let s = site_of c.args.topo c.args.graph.now in
    let areas = c.args.areas.now in
    let items = c.in_ok-groups.groups.items in
    subst (λ (d : List Bool). AreFilled s areas d (rows_seen c.deref_mut.result.now)) (sym c.deref_mut-2.ensures.value)
    (subst (λ rows. AreFilled s areas c.in_ok-done.done.items (rows_seen rows)) (sym c.deref_mut.ensures.value)
    (none_filled s areas c.in_ok-done.done.items (rows_seen items) (subst (AreUnmarked c.in_ok-done.done.items) c.group_count-count.ensures c.in_ok-done.ensures)
    (sym (rows_long items) ∙ (sym (length-map items (λ r. r.items)) ∙ (c.in_ok-groups.ensures.length_is ∙ c.group_count-count.ensures))) (rows_empty items (λ g. c.in_ok-groups.ensures.empty g))))

pub returns : goal.returns
returns c =
    let s = site_of c.args.topo c.args.graph.now in
    let areas = c.args.areas.now in
    let hosts = host_rows c.in_ok-hosts.hosts.items in
    let items = c.in_ok-groups.groups.items in
    let long : length c.fill_sets.new.groups ≡ length items = c.fill_sets.auto.groups ∙ ap length c.deref_mut.ensures.value in
    subst (λ rows. AreTables s areas (record { hosts = hosts; groups = rows_seen rows })) (sym (taken_back c.fill_sets.new.groups items c.in_ok-groups.groups.len long c.in_ok-groups.groups.ok.0))
    (tables_of s areas c.fill_sets.new.done hosts (rows_seen c.fill_sets.new.groups) c.in_ok-hosts.ensures c.in_ok-fill_sets.ensures.filled c.in_ok-fill_sets.ensures.all)
