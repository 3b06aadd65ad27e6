use Rattle.std.proofs.Common.{◌≡◌, ◌<◌, ◌∙◌, length, sym, ap, subst}
use Rattle.std.specs.Prelude.{None, Some}
use Rattle.policy_model.specs.Policy.{Policy}
use Rattle.policy_model.specs.Tags.{zone_view}
use Rattle.policy_model.specs.Zones.{zone_of}
use Rattle.topology.specs.View.{policy_of}
use Rattle.nat_view.specs.Seen.{Sight}
use Rattle.nat_view.specs.Sights.{sight_of}
use Rattle.nat_view.specs.Views.{seen_of}
use Rattle.permit_lines.specs.Given.{site_with}
use Rattle.permit_set.specs.Shown.{permit_of}
use Rattle.rule_distribute.proofs.Passing.{are_there, sighted, none_seen, none_passed, hidden_end_there, passed_by}
use Rattle.rule_distribute.proofs.hidden.hidden_at.Goals as goal

pub hidden_in-requires-clause-src : goal.hidden_in-requires-clause-src
hidden_in-requires-clause-src c =
    let policy = ap (λ (s : Sight). s.policy) c.zone.ensures ∙ c.requires.policy in
    subst (λ (p : Policy). c.args.q.src.net.0 < length p.nets) (sym policy) c.requires.src

pub hidden_in-requires-clause-dst : goal.hidden_in-requires-clause-dst
hidden_in-requires-clause-dst c =
    let policy = ap (λ (s : Sight). s.policy) c.zone.ensures ∙ c.requires.policy in
    subst (λ (p : Policy). c.args.q.dst.net.0 < length p.nets) (sym policy) c.requires.dst

pub returns-in_default-clause-none : goal.returns-in_default-clause-none
returns-in_default-clause-none c =
    let s = site_with (policy_of c.args.topo) c.args.graph.now in
    let v = (seen_of c.args.views.now).views in
    let policy = ap (λ (s : Sight). s.policy) c.zone.ensures ∙ c.requires.policy in
    let tags = ap (λ (s : Sight). s.tags) c.zone.ensures in
    none_seen s v (permit_of c.args.q) c.args.z.0
    (sighted (sight_of c.zone.result) (policy_of c.args.topo) (zone_view v c.args.z.0) (permit_of c.args.q) c.hidden_in.result None policy tags c.hidden_in.ensures c.in_default.is)

pub passes-requires-clause-there : goal.passes-requires-clause-there
passes-requires-clause-there c =
    let s = site_with (policy_of c.args.topo) c.args.graph.now in
    are_there s (zone_of s c.args.q.src.net.0) (zone_of s c.args.q.dst.net.0) c.args.crossings.now c.requires.marks

pub returns-then-not-passes-clause-none : goal.returns-then-not-passes-clause-none
returns-then-not-passes-clause-none c =
    let s = site_with (policy_of c.args.topo) c.args.graph.now in
    let from = zone_of s c.args.q.src.net.0 in
    let to = zone_of s c.args.q.dst.net.0 in
    none_passed s (seen_of c.args.views.now).views (permit_of c.args.q) c.args.z.0
    (sym (passed_by s from to c.args.z.0 c.args.crossings.now c.requires.marks) ∙ (sym c.passes.ensures ∙ c.if-not-passes.true))

pub returns-clause-some : goal.returns-clause-some
returns-clause-some c =
    let s = site_with (policy_of c.args.topo) c.args.graph.now in
    let v = (seen_of c.args.views.now).views in
    let from = zone_of s c.args.q.src.net.0 in
    let to = zone_of s c.args.q.dst.net.0 in
    let policy = ap (λ (s : Sight). s.policy) c.zone.ensures ∙ c.requires.policy in
    let tags = ap (λ (s : Sight). s.tags) c.zone.ensures in
    hidden_end_there s v (permit_of c.args.q) c.args.z.0 c.in-Some.is_dst c.requires.differ
    (sighted (sight_of c.zone.result) (policy_of c.args.topo) (zone_view v c.args.z.0) (permit_of c.args.q) c.hidden_in.result (Some c.in-Some.is_dst) policy tags c.hidden_in.ensures c.in-Some.is)
    (sym (passed_by s from to c.args.z.0 c.args.crossings.now c.requires.marks) ∙ (sym c.passes.ensures ∙ c.if-not-passes.false))
