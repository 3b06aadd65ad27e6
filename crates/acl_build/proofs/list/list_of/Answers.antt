use Rattle.std.proofs.Common.{◌≤◌, ap, sym, subst, ◌∙◌, map, length}
use Rattle.std.proofs.lemmas.List.{length-map}
use Rattle.std.proofs.lemmas.Result.{err_from_is_err_and}
use Rattle.topology.specs.View.{policy_of}
use Rattle.permit_set.specs.Shown.{permit_of}
use Rattle.dev_config.specs.Seen.{line_of}
use Rattle.nat_view.specs.Seen.{Sight}
use Rattle.nat_view.specs.Sights.{sight_of}
use Rattle.nat_view.specs.Views.{seen_of}
use Rattle.permit_lines.specs.Given.{site_with}
use Rattle.acl_build.specs.Seen.{block_seen}
use Rattle.acl_build.proofs.Placed.{placed_blocks, list_made, blocks_over, last_over}
use Rattle.acl_build.proofs.list.list_of.Goals as goal

pub push_blocks-requires-clause-blocks : goal.push_blocks-requires-clause-blocks
push_blocks-requires-clause-blocks c =
    let s = site_with (policy_of c.args.topo) c.args.graph.now in
    let v = (seen_of c.args.views.now).views in
    let all = c.args.permits.now in
    placed_blocks s v (map permit_of all) c.args.place.now.iface.0 (sight_of c.view_at-view.result).policy (length all) c.items.result.now
    (ap (λ (t : Sight). t.policy) c.view_at-view.ensures ∙ c.requires.policy) (sym (length-map all permit_of)) (ap (map block_seen) c.items.ensures ∙ c.requires.place)

pub returns-in_err-push_blocks-clause-refused : goal.returns-in_err-push_blocks-clause-refused
returns-in_err-push_blocks-clause-refused c =
    let s = site_with (policy_of c.args.topo) c.args.graph.now in
    let v = (seen_of c.args.views.now).views in
    let over = blocks_over s v (map permit_of c.args.permits.now) c.args.place.now.iface.0 (sight_of c.view_at-view.result) (map block_seen c.items.result.now) c.new-lines.result.items c.args.most
    c.in_err-push_blocks.field-0.0 (ap (λ (t : Sight). t.policy) c.view_at-view.ensures ∙ c.requires.policy) (ap (λ (t : Sight). t.tags) c.view_at-view.ensures)
    (ap (map block_seen) c.items.ensures ∙ c.requires.place) c.new-lines.ensures.items c.in_err-push_blocks.ensures.refused in
    let p = err_from_is_err_and c.from_residual.result c.from_residual.ensures.1 in
    rw (p.1, p.2) over

pub returns-in_err-push_last-clause-refused : goal.returns-in_err-push_last-clause-refused
returns-in_err-push_last-clause-refused c =
    let s = site_with (policy_of c.args.topo) c.args.graph.now in
    let v = (seen_of c.args.views.now).views in
    let over = last_over s v (map permit_of c.args.permits.now) c.args.place.now.iface.0 (sight_of c.view_at-view.result) (map block_seen c.items.result.now) c.new-lines.result.items
    c.push_blocks.new.lines.items c.args.most c.in_err-push_last.field-0.0 (ap (λ (t : Sight). t.policy) c.view_at-view.ensures ∙ c.requires.policy)
    (ap (λ (t : Sight). t.tags) c.view_at-view.ensures) (ap (map block_seen) c.items.ensures ∙ c.requires.place) c.new-lines.ensures.items c.in_ok-push_blocks.ensures.lines
    c.in_err-push_last.ensures.refused in
    let p = err_from_is_err_and c.from_residual-in_err-push_last.result c.from_residual-in_err-push_last.ensures.1 in
    rw (p.1, p.2) over

pub returns-clause-list : goal.returns-clause-list
returns-clause-list c =
    let s = site_with (policy_of c.args.topo) c.args.graph.now in
    let v = (seen_of c.args.views.now).views in
    let sight = sight_of c.view_at-view.result in
    let made = list_made s v (map permit_of c.args.permits.now) c.args.place.now.iface.0 sight (map block_seen c.items.result.now) c.new-lines.result.items c.push_blocks.new.lines.items
    c.push_last.new.lines.items (ap (λ (t : Sight). t.policy) c.view_at-view.ensures ∙ c.requires.policy) (ap (λ (t : Sight). t.tags) c.view_at-view.ensures)
    (ap (map block_seen) c.items.ensures ∙ c.requires.place) c.new-lines.ensures.items c.in_ok-push_blocks.ensures.lines c.in_ok-push_last.ensures.lines in
    ap (map line_of) (c.in_ok-lines.ensures ∙ c.deref.ensures.value) ∙ made

pub returns-clause-within : goal.returns-clause-within
returns-clause-within c = subst (λ ls. length ls ≤ c.args.most) (sym (c.in_ok-lines.ensures ∙ c.deref.ensures.value)) c.in_ok-push_last.ensures.room
