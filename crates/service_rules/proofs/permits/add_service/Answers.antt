use Rattle.std.proofs.Common.{◌++◌, ◌∙◌, map, refl, sym, ap, append-nil}
use Rattle.topology.specs.Seen.{rule_seen, service_seen}
use Rattle.topology.specs.Sound.{is_sound_rule}
use Rattle.topology.specs.View.{policy_of, sources_of}
use Rattle.group_expand.specs.Sets.{object_seen}
use Rattle.permit_set.specs.Shown.{permit_of}
use Rattle.service_rules.specs.Ends.{items_if}
use Rattle.service_rules.specs.Scope.{site_in}
use Rattle.service_rules.proofs.Rules.{more_behind, all_behind, rest_sound, next_sound, rules_sound, user_sound, service_begins, nothing_listed, rules_to_come}
use Rattle.service_rules.proofs.permits.add_service.Goals as goal

pub user-requires-clause-sound : goal.user-requires-clause-sound
user-requires-clause-sound c = user_sound (policy_of c.args.scope.now.topo) (service_seen (sources_of c.args.scope.now.topo) c.args.service.now) c.requires.sound

pub loop-rule-init : goal.loop-rule-init
loop-rule-init c =
    let s = site_in c.args.scope.now in
    let sources = sources_of c.args.scope.now.topo in (
      rules_sound (policy_of c.args.scope.now.topo) sources c.args.service.now c.requires.sound,
      ap (λ l. map permit_of c.args.found.now.items ++ l) (service_begins s c.args.scope.now.areas.now c.args.deny sources c.args.service.now (map object_seen c.in_ok-user.user.items) c.in_ok-user.ensures.objects),
    )

pub add_if_action-requires-clause-sound : goal.add_if_action-requires-clause-sound
add_if_action-requires-clause-sound c =
    next_sound (λ r. is_sound_rule (policy_of c.args.scope.now.topo) (rule_seen r)) c.args.service.now.rules.now c.loop-rule.rule-index c.rule-item.result c.loop-rule-test.true c.rule-item.is c.loop-rule.invariant.0

pub loop-rule-preserved : goal.loop-rule-preserved
loop-rule-preserved c =
    let s = site_in c.args.scope.now in
    let user = map object_seen c.in_ok-user.user.items in (
      rest_sound (λ r. is_sound_rule (policy_of c.args.scope.now.topo) (rule_seen r)) c.args.service.now.rules.now c.loop-rule.rule-index c.rule-item.result c.loop-rule-test.true c.loop-rule.invariant.0,
      more_behind (rules_to_come s c.args.scope.now.areas.now user c.args.deny) (λ r. items_if s c.args.scope.now.areas.now user c.args.deny (rule_seen r)) (λ r l. refl) c.args.service.now.rules.now c.loop-rule.rule-index c.rule-item.result
          (map permit_of c.loop-rule.found.items) (map permit_of c.add_if_action.new.found.items) _ c.loop-rule-test.true c.rule-item.is
          (c.in_ok-add_if_action.ensures ∙ ap (λ os. map permit_of c.loop-rule.found.items ++ items_if s c.args.scope.now.areas.now (map object_seen os) c.args.deny (rule_seen c.rule-item.result)) c.deref.ensures.value) c.loop-rule.invariant.1,
    )

pub returns : goal.returns
returns c =
    let s = site_in c.args.scope.now in
    let user = map object_seen c.in_ok-user.user.items in
    all_behind (rules_to_come s c.args.scope.now.areas.now user c.args.deny) c.args.service.now.rules.now c.loop-rule.rule-index (map permit_of c.loop-rule.found.items) _ refl c.loop-rule-test.false c.loop-rule.invariant.1

pub returns-then-not-has_rule : goal.returns-then-not-has_rule
returns-then-not-has_rule c =
    let found = map permit_of c.args.found.now.items in
    sym (ap (λ l. found ++ l)
    (nothing_listed (site_in c.args.scope.now) c.args.scope.now.areas.now c.args.deny (sources_of c.args.scope.now.topo) c.args.service.now c.has_rule.result c.has_rule.ensures c.if-not-has_rule.true)
    ∙ append-nil found)
