use Rattle.std.proofs.Common.{◌∙◌, ap, map, length}
use Rattle.std.specs.List.{list_any}
use Rattle.policy_model.specs.Faults.{is_managed_end}
use Rattle.group_expand.specs.Sets.{object_seen}
use Rattle.service_rules.specs.Scope.{site_in}
use Rattle.service_rules.proofs.LeastEnds.{rule_least}
use Rattle.topology.specs.Seen.{rule_seen}
use Rattle.topology.specs.View.{policy_of}
use Rattle.service_rules.proofs.Rules.{source_sound, destination_sound}
use Rattle.service_rules.proofs.managed.in_rule.Goals as goal

pub side-requires-clause-sound : goal.side-requires-clause-sound
side-requires-clause-sound c = source_sound (policy_of c.args.scope.now.topo) (rule_seen c.args.rule.now) c.requires.sound

pub side-requires-2-clause-sound : goal.side-requires-2-clause-sound
side-requires-2-clause-sound c = destination_sound (policy_of c.args.scope.now.topo) (rule_seen c.args.rule.now) c.requires.sound

pub returns-clause-least : goal.returns-clause-least
returns-clause-least c =
    let s = site_in c.args.scope.now in
    rule_least s c.args.scope.now.areas.now (map object_seen c.args.user.now) (rule_seen c.args.rule.now) (map object_seen c.deref.result.now) (map object_seen c.deref-2.result.now) c.lesser.result
    (ap (map object_seen) c.deref.ensures.value ∙ c.in_ok-srcs.ensures.objects) (ap (map object_seen) c.deref-2.ensures.value ∙ c.in_ok-dsts.ensures.objects)
    (c.lesser.ensures.least (λ i. list_any (is_managed_end s.policy i) (map object_seen c.deref.result.now)) (λ i. list_any (is_managed_end s.policy i) (map object_seen c.deref-2.result.now))
    c.least_managed.ensures.least c.least_managed-2.ensures.least)

pub returns-clause-there : goal.returns-clause-there
returns-clause-there c = c.lesser.ensures.there (length (policy_of c.args.scope.now.topo).ifaces) c.least_managed.ensures.there c.least_managed-2.ensures.there
