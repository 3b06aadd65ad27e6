use Rattle.std.proofs.Common.{◌∙◌, List, length, map, sym, ap}
use Rattle.std.specs.Prelude.{option_map}
use Rattle.std.proofs.lemmas.List.{length-map}
use Rattle.spoc_base.specs.Shown.{cidr_of, interval_of}
use Rattle.spoc_base.specs.declared.ids.NetId.{NetId}
use Rattle.nat_view.specs.Sights.{sight_of}
use Rattle.shadow_checks.proofs.Choosing.{not_some}
use Rattle.shadow_checks.proofs.Moved.{all_below, of_near, none_hidden, no_range}
use Rattle.shadow_checks.proofs.least.least_inside.Goals as goal

pub returns-in_default : goal.returns-in_default
returns-in_default c =
    let s = sight_of c.args.view in
    none_hidden s.policy s.tags c.args.n.0 (interval_of c.args.range) (sym (ap (option_map cidr_of) (not_some c.seen_prefix.result c.in_default.not-Some)) ∙ c.seen_prefix.ensures)

pub returns-in_default-range_in : goal.returns-in_default-range_in
returns-in_default-range_in c =
    let s = sight_of c.args.view in
    let n = c.args.n.0 in
    let range = interval_of c.args.range in
    none_hidden s.policy s.tags n range (no_range s.policy s.tags n range (sym (ap (option_map interval_of) (not_some c.range_in.result c.in_default-range_in.not-Some)) ∙ c.range_in.ensures))

pub first_of-requires-clause-there : goal.first_of-requires-clause-there
first_of-requires-clause-there c =
    let s = sight_of c.args.view in
    all_below s.policy s.tags (cidr_of c.in-Some.here) c.deref.result.now (ap (λ (xs : List NetId). map (λ (m : NetId). m.0) xs) c.deref.ensures.value ∙ c.in_ok-near.ensures)

pub returns : goal.returns
returns c =
    let s = sight_of c.args.view in
    let ids = c.deref.result.now in
    let listed = ap (λ (xs : List NetId). map (λ (m : NetId). m.0) xs) c.deref.ensures.value ∙ c.in_ok-near.ensures in
    let its = sym c.seen_prefix.ensures ∙ ap (option_map cidr_of) c.in-Some.is in
    let is = sym c.range_in.ensures ∙ ap (option_map interval_of) c.in-Some-range_in.is in
    of_near s.policy s.tags c.requires.nets c.requires.apart c.args.n.0 (interval_of c.args.range) (interval_of c.in-Some-range_in.seen) (cidr_of c.in-Some.here) c.requires.there c.args.range.ordered
    c.requires.inside its is (map (λ (m : NetId). m.0) ids) listed c.first_of.result (length ids) (sym (length-map ids (λ (m : NetId). m.0))) c.first_of.ensures
