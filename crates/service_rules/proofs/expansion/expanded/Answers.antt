use Rattle.std.proofs.Common.{◌≡◌, ◌∙◌, [], ◌∷◌, suc, sym, ap, map, flat_map, take, refl}
use Rattle.std.proofs.lemmas.Result.{IfOk-weaker}
use Rattle.policy_model.specs.FirstFault.{most_items}
use Rattle.policy_model.specs.Permits.{pieces_left_by, permits_of}
use Rattle.permit_set.specs.Shown.{permit_of}
use Rattle.service_rules.specs.Scope.{site_in}
use Rattle.service_rules.proofs.Limits.{all_taken, none_there, some_taken}
use Rattle.service_rules.proofs.expansion.expanded.Goals as goal

pub returns-then-is_empty : goal.returns-then-is_empty
returns-then-is_empty c =
    let denials = c.in_ok-denials.denials in
    all_taken (site_in c.args.scope.now) c.args.scope.now.areas.now (map permit_of c.in_ok-permits.permits.items)
    (none_there denials.items permit_of denials.len (sym denials.ok.0) (sym c.is_empty.ensures ∙ c.if-is_empty.true) _ c.in_ok-denials.ensures) c.requires.few c.in_ok-permits.ensures

pub returns : goal.returns
returns c =
    let s = site_in c.args.scope.now in
    let areas = c.args.scope.now.areas.now in
    let denials = map permit_of c.deref-2.result.now in
    let permits = map permit_of c.deref.result.now in
    IfOk-weaker c.permits_left.result (λ found. map permit_of found.items ≡ take (suc most_items) (flat_map (λ q. pieces_left_by denials (q ∷ [])) permits))
    (λ found. map permit_of found.items ≡ take (suc most_items) (permits_of s areas))
    (λ found is. some_taken s areas denials permits (map permit_of found.items) (suc most_items) refl (ap (map permit_of) c.deref-2.ensures.value ∙ c.in_ok-denials.ensures)
    (ap (map permit_of) c.deref.ensures.value ∙ c.in_ok-permits.ensures) is) c.permits_left.ensures
