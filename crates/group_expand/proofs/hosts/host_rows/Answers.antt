use Rattle.std.proofs.Common.{◌≡◌, ◌∙◌, length, sym, subst, ap}
use Rattle.std.proofs.lemmas.List.{length-map}
use Rattle.topology.specs.View.{policy_of}
use Rattle.group_expand.specs.Sets.{AreHosts, host_rows}
use Rattle.group_expand.proofs.Tables.{hosts_found, taken_back}
use Rattle.group_expand.proofs.hosts.host_rows.Goals as goal

pub returns : goal.returns
returns c =
    let p = policy_of c.args.topo in
    let long : length c.fill_rows.new.rows ≡ length c.in_ok-rows.rows.items = c.fill_rows.auto.rows ∙ ap length c.deref_mut.ensures.value in
    subst (λ rows. AreHosts p (host_rows rows)) (sym (taken_back c.fill_rows.new.rows c.in_ok-rows.rows.items c.in_ok-rows.rows.len long c.in_ok-rows.rows.ok.0))
    (hosts_found p c.fill_rows.new.rows
    (long ∙ (sym (length-map c.in_ok-rows.rows.items (λ r. r.items)) ∙ (c.in_ok-rows.ensures.length_is ∙ c.net_count.ensures))) c.in_ok-fill_rows.ensures)
