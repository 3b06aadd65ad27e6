use Rattle.std.proofs.Common.{◌∙◌, ap, arith, length, map, sym}
use Rattle.std.proofs.lemmas.List.{length-map}
use Rattle.spoc_base.specs.Shown.{box_of}
use Rattle.policy_model.specs.Objects.{objects_of}
use Rattle.policy_model.specs.Permits.{ends_in}
use Rattle.group_expand.specs.Sets.{object_seen}
use Rattle.service_rules.specs.Counted.{most}
use Rattle.service_rules.specs.Scope.{site_in}
use Rattle.service_rules.proofs.Counts.{rule_count, ends_counted}
use Rattle.topology.specs.Seen.{rule_seen}
use Rattle.topology.specs.View.{policy_of}
use Rattle.service_rules.proofs.Rules.{source_sound, destination_sound}
use Rattle.service_rules.proofs.count.of_rule.Goals as goal

pub side-requires-clause-sound : goal.side-requires-clause-sound
side-requires-clause-sound c = source_sound (policy_of c.args.scope.now.topo) (rule_seen c.args.rule.now) c.requires.sound

pub side-requires-2-clause-sound : goal.side-requires-2-clause-sound
side-requires-2-clause-sound c = destination_sound (policy_of c.args.scope.now.topo) (rule_seen c.args.rule.now) c.requires.sound

pub returns : goal.returns
returns c =
    let s = site_in c.args.scope.now in
    let areas = c.args.scope.now.areas.now in
    let user = map object_seen c.args.user.now in
    let rule = rule_seen c.args.rule.now in
    rule_count (ends_in s areas user rule.src) (ends_in s areas user rule.dst) rule.boxes c.len.result c.len-2.result (length c.args.rule.now.prts.now) most c.saturating_mul.result c.saturating_mul-2.result
    (ends_counted c.in_ok-srcs.srcs.items (map object_seen c.deref.result.now) (objects_of s areas user rule.src) s c.len.result
    (omega (arith, c.len.ensures, c.in_ok-srcs.srcs.ok.0)) c.in_ok-srcs.ensures (ap (map object_seen) c.deref.ensures.value ∙ c.in_ok-side.ensures.objects))
    (ends_counted c.in_ok-dsts.dsts.items (map object_seen c.deref-2.result.now) (objects_of s areas user rule.dst) s c.len-2.result
    (omega (arith, c.len-2.ensures, c.in_ok-dsts.dsts.ok.0)) c.in_ok-dsts.ensures (ap (map object_seen) c.deref-2.ensures.value ∙ c.in_ok-side-2.ensures.objects))
    (sym (length-map c.args.rule.now.prts.now box_of)) c.saturating_mul.ensures c.saturating_mul-2.ensures
