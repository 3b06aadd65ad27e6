use Rattle.std.proofs.Common.{◌≡◌, ℕ, List, ◌++◌, length, map, sym, ap, subst, ◌∙◌}
use Rattle.spoc_base.specs.declared.ids.ZoneId.{ZoneId}
use Rattle.policy_model.specs.Zones.{zone_count}
use Rattle.policy_model.specs.Blocks.{is_joined_pair}
use Rattle.topology.specs.View.{policy_of}
use Rattle.nat_view.specs.Views.{seen_of}
use Rattle.permit_set.specs.Shown.{permit_of}
use Rattle.permit_lines.specs.Given.{site_with}
use Rattle.rule_distribute.specs.Pairs.{AreOnce}
use Rattle.rule_distribute.proofs.AllConcerned.{as_long, firsts_are_there, as_nested, none_there, zones_counted, concerned_are, joined_are, kept_all}
use Rattle.rule_distribute.proofs.concerned.concerned.Goals as goal

pub nested_pairs-requires-clause-zones : goal.nested_pairs-requires-clause-zones
nested_pairs-requires-clause-zones c = firsts_are_there (seen_of c.args.views.now).views.zones c.in_ok-zones.zones.items c.deref.result.now c.deref.ensures.value c.in_ok-zones.ensures

pub nested_pairs-requires-clause-joined : goal.nested_pairs-requires-clause-joined
nested_pairs-requires-clause-joined c =
    let s = site_with (policy_of c.args.topo) c.args.graph.now in
    let permits = map permit_of c.args.permits.now in
    as_long (policy_of c.args.topo) (length c.args.graph.now.zones) c.requires.graph.table.each (λ (e : ℕ × ℕ). is_joined_pair s permits (record { src = e.0; dst = e.1 })) c.deref-2.result.now (c.deref-2.ensures.value ∙ c.in_ok-pairs.ensures.pairs)

pub returns-then-is_empty-clause-pairs : goal.returns-then-is_empty-clause-pairs
returns-then-is_empty-clause-pairs c =
    let p = policy_of c.args.topo in
    let s = site_with p c.args.graph.now in
    let v = (seen_of c.args.views.now).views in
    let permits = map permit_of c.args.permits.now in
    let firsts = map (λ (z : ZoneId). z.0) c.in_ok-zones.zones.items in
    let each : length v.zones ≡ zone_count s = c.requires.zones ∙ sym (zones_counted c.args.graph.now.zones (length c.args.graph.now.nets) c.requires.graph.numbers) in
    let found = c.in_ok-nested.ensures ∙ as_nested s.zones p (seen_of c.args.views.now).policy v c.in_ok-pairs.pairs.items c.deref-2.result.now c.in_ok-zones.zones.items c.deref.result.now c.requires.policy c.deref-2.ensures.value c.deref.ensures.value in
    let none = none_there c.in_ok-nested.nested.items c.in_ok-nested.nested.len (sym c.in_ok-nested.nested.ok.0) (sym c.is_empty.ensures ∙ c.if-is_empty.true) in
    c.in_ok-pairs.ensures.pairs ∙ joined_are s v permits each firsts c.in_ok-zones.ensures c.in_ok-pairs.pairs.items c.in_ok-pairs.ensures.pairs (sym found ∙ none)

pub returns-clause-all : goal.returns-clause-all
returns-clause-all c =
    let permits = map permit_of c.args.permits.now in
    kept_all c.args.graph.now.zones permits c.in_ok-pairs.pairs.items c.in_ok-nested.nested.items c.once_each.new.pairs.items c.in_ok-pairs.ensures.all
    (subst (λ (xs : List (ℕ × ℕ)). AreOnce xs c.once_each.new.pairs.items) c.in_ok-append.ensures.items c.once_each.ensures)

pub returns-clause-pairs : goal.returns-clause-pairs
returns-clause-pairs c =
    let p = policy_of c.args.topo in
    let s = site_with p c.args.graph.now in
    let v = (seen_of c.args.views.now).views in
    let permits = map permit_of c.args.permits.now in
    let firsts = map (λ (z : ZoneId). z.0) c.in_ok-zones.zones.items in
    let each : length v.zones ≡ zone_count s = c.requires.zones ∙ sym (zones_counted c.args.graph.now.zones (length c.args.graph.now.nets) c.requires.graph.numbers) in
    let found = c.in_ok-nested.ensures ∙ as_nested s.zones p (seen_of c.args.views.now).policy v c.in_ok-pairs.pairs.items c.deref-2.result.now c.in_ok-zones.zones.items c.deref.result.now c.requires.policy c.deref-2.ensures.value c.deref.ensures.value in
    let all = c.in_ok-append.ensures.items ∙ ap (λ (xs : List (ℕ × ℕ)). c.in_ok-pairs.pairs.items ++ xs) found in
    concerned_are s v permits each firsts c.in_ok-zones.ensures c.in_ok-pairs.pairs.items c.in_ok-pairs.ensures.pairs c.once_each.new.pairs.items (subst (λ (xs : List (ℕ × ℕ)). AreOnce xs c.once_each.new.pairs.items) all c.once_each.ensures)
