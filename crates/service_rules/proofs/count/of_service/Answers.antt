use Rattle.std.proofs.Common.{◌∙◌, ap, map, length, refl, arith}
use Rattle.service_rules.specs.Ends.{items_if}
use Rattle.topology.specs.Seen.{rule_seen, service_seen}
use Rattle.topology.specs.Sound.{is_sound_rule}
use Rattle.topology.specs.View.{policy_of, sources_of}
use Rattle.group_expand.specs.Sets.{object_seen}
use Rattle.service_rules.specs.Counted.{counted, most}
use Rattle.service_rules.specs.Scope.{site_in}
use Rattle.service_rules.proofs.Rules.{rest_sound, rules_sound, user_sound, service_begins, nothing_listed, rules_to_come, count_more, count_end}
use Rattle.service_rules.proofs.Counts.{count_begins, none_counted}
use Rattle.service_rules.proofs.count.of_service.Goals as goal

pub user-requires-clause-sound : goal.user-requires-clause-sound
user-requires-clause-sound c = user_sound (policy_of c.args.scope.now.topo) (service_seen (sources_of c.args.scope.now.topo) c.args.service.now) c.requires.sound

pub loop-rule-init : goal.loop-rule-init
loop-rule-init c =
    let s = site_in c.args.scope.now in
    let sources = sources_of c.args.scope.now.topo in (
      rules_sound (policy_of c.args.scope.now.topo) sources c.args.service.now c.requires.sound,
      omega arith,
      count_begins _ _ most (ap length (service_begins s c.args.scope.now.areas.now c.args.deny sources c.args.service.now (map object_seen c.in_ok-user.user.items) c.in_ok-user.ensures.objects)),
    )

pub loop-rule-preserved : goal.loop-rule-preserved
loop-rule-preserved c =
    let s = site_in c.args.scope.now in
    let areas = c.args.scope.now.areas.now in
    let user = map object_seen c.in_ok-user.user.items in
    let rules = c.args.service.now.rules.now in
    let k = c.loop-rule.rule-index in (
      rest_sound (λ r. is_sound_rule (policy_of c.args.scope.now.topo) (rule_seen r)) rules k c.rule-item.result c.loop-rule-test.true c.loop-rule.invariant.0,
      omega (arith, c.saturating_add-count.ensures),
      count_more (rules_to_come s areas user c.args.deny) (λ r. items_if s areas user c.args.deny (rule_seen r)) (λ r l. refl) rules k c.rule-item.result most c.loop-rule.count c.saturating_add-count.result
          c.in_ok-if_action.field-0 _ c.loop-rule-test.true c.rule-item.is
          (c.in_ok-if_action.ensures ∙ ap (λ os. counted (length (items_if s areas (map object_seen os) c.args.deny (rule_seen c.rule-item.result)))) c.deref.ensures.value)
          c.saturating_add-count.ensures c.loop-rule.invariant.2,
    )

pub returns : goal.returns
returns c =
    let s = site_in c.args.scope.now in
    let user = map object_seen c.in_ok-user.user.items in
    count_end (rules_to_come s c.args.scope.now.areas.now user c.args.deny) c.args.service.now.rules.now c.loop-rule.rule-index most c.loop-rule.count _ refl c.loop-rule-test.false c.loop-rule.invariant.1 c.loop-rule.invariant.2

pub returns-then-not-has_rule : goal.returns-then-not-has_rule
returns-then-not-has_rule c =
    none_counted _ most
    (ap length (nothing_listed (site_in c.args.scope.now) c.args.scope.now.areas.now c.args.deny (sources_of c.args.scope.now.topo) c.args.service.now c.has_rule.result c.has_rule.ensures c.if-not-has_rule.true))
