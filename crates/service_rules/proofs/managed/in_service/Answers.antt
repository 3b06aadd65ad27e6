use Rattle.std.proofs.Common.{map, length, refl, subst}
use Rattle.topology.specs.Seen.{rule_seen, service_seen}
use Rattle.topology.specs.Sound.{is_sound_rule}
use Rattle.topology.specs.View.{policy_of, sources_of}
use Rattle.group_expand.specs.Sets.{object_seen}
use Rattle.service_rules.specs.Least.{IsLeast, rule_has_end}
use Rattle.service_rules.specs.Scope.{site_in}
use Rattle.service_rules.proofs.LeastEnds.{least_all, least_item, service_least}
use Rattle.service_rules.proofs.Rules.{rest_sound, rules_sound, user_sound}
use Rattle.service_rules.proofs.managed.in_service.Goals as goal

pub user-requires-clause-sound : goal.user-requires-clause-sound
user-requires-clause-sound c = user_sound (policy_of c.args.scope.now.topo) (service_seen (sources_of c.args.scope.now.topo) c.args.service.now) c.requires.sound

pub loop-rule-init : goal.loop-rule-init
loop-rule-init c = (rules_sound (policy_of c.args.scope.now.topo) (sources_of c.args.scope.now.topo) c.args.service.now c.requires.sound, λ i. refl, tt)

pub loop-rule-preserved : goal.loop-rule-preserved
loop-rule-preserved c =
    let p = policy_of c.args.scope.now.topo in
    let s = site_in c.args.scope.now in
    let areas = c.args.scope.now.areas.now in
    let rules = c.args.service.now.rules.now in
    let k = c.loop-rule.rule-index in (
      rest_sound (λ r. is_sound_rule p (rule_seen r)) rules k c.rule-item.result c.loop-rule-test.true c.loop-rule.invariant.0,
      least_item (λ i r. rule_has_end s areas (map object_seen c.in_ok-user.user.items) (rule_seen r) i) rules k c.rule-item.result c.loop-rule.least c.in_ok-in_rule.field-0 c.lesser-least.result
          c.loop-rule-test.true c.rule-item.is c.lesser-least.ensures.least
          (subst (λ os. IsLeast (rule_has_end s areas (map object_seen os) (rule_seen c.rule-item.result)) c.in_ok-in_rule.field-0) c.deref.ensures.value c.in_ok-in_rule.ensures.least)
          c.loop-rule.invariant.1,
      c.lesser-least.ensures.there (length p.ifaces) c.loop-rule.invariant.2 c.in_ok-in_rule.ensures.there,
    )

pub returns-clause-least : goal.returns-clause-least
returns-clause-least c =
    let s = site_in c.args.scope.now in
    let areas = c.args.scope.now.areas.now in
    let user = map object_seen c.in_ok-user.user.items in
    service_least s areas (sources_of c.args.scope.now.topo) c.args.service.now user c.loop-rule.least c.in_ok-user.ensures.objects
    (least_all (λ i r. rule_has_end s areas user r i) rule_seen c.args.service.now.rules.now c.loop-rule.rule-index c.loop-rule.least c.loop-rule-test.false c.loop-rule.invariant.1)
