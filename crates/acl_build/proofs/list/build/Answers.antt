use Rattle.std.proofs.Common.{map, sym, subst}
use Rattle.std.proofs.lemmas.Result.{err_from_is_err_and}
use Rattle.policy_model.specs.Blocks.{list_at}
use Rattle.policy_model.specs.Laws.{IsExactAt, PassesNothingElse}
use Rattle.policy_laws.proofs.Exact.{exact, nothing_else}
use Rattle.topology.specs.View.{policy_of}
use Rattle.permit_set.specs.Shown.{permit_of}
use Rattle.nat_view.specs.Views.{seen_of}
use Rattle.permit_lines.specs.Given.{site_with}
use Rattle.acl_build.proofs.Limits.{less_left}
use Rattle.acl_build.proofs.list.build.Goals as goal

pub returns-in_err-list-clause-refused : goal.returns-in_err-list-clause-refused
returns-in_err-list-clause-refused c = let p = err_from_is_err_and c.from_residual.result c.from_residual.ensures.1 in rw (p.1, p.2) c.in_err-list.ensures.refused

pub returns-clause-list : goal.returns-clause-list
returns-clause-list c = c.in_ok-list.ensures.list

pub returns-clause-left : goal.returns-clause-left
returns-clause-left c =
    let s = site_with (policy_of c.args.topo) c.args.graph.now in
    let v = (seen_of c.args.views.now).views in
    less_left c.in_ok-list.list.lines.now (list_at s v (map permit_of c.args.permits.now) c.args.place.now.iface.0) c.args.left.now c.in_ok-list.ensures.list c.in_ok-list.ensures.within

pub returns-clause-exact : goal.returns-clause-exact
returns-clause-exact c =
    let s = site_with (policy_of c.args.topo) c.args.graph.now in
    let v = (seen_of c.args.views.now).views in
    let permits = map permit_of c.args.permits.now in
    let i = c.args.place.now.iface.0 in
    λ ok. subst (IsExactAt s v permits i) (sym c.in_ok-list.ensures.list) (exact s v permits i ok)

pub returns-clause-nothing_else : goal.returns-clause-nothing_else
returns-clause-nothing_else c =
    let s = site_with (policy_of c.args.topo) c.args.graph.now in
    let v = (seen_of c.args.views.now).views in
    let permits = map permit_of c.args.permits.now in
    let i = c.args.place.now.iface.0 in
    λ ok. subst (PassesNothingElse s v permits i) (sym c.in_ok-list.ensures.list) (nothing_else s v permits i ok)
