use Rattle.std.proofs.Common.{◌≡◌, length, map, take, drop, true}
use Rattle.std.specs.List.{list_any}
use Rattle.topology.specs.Seen.{rule_seen}
use Rattle.topology.specs.View.{policy_of}
use Rattle.group_expand.specs.Sets.{object_seen}
use Rattle.service_rules.specs.Least.{IsBelow, IsLeast, rule_has_end}
use Rattle.service_rules.specs.Scope.{site_in}
use Rattle.service_rules.proofs.Rules.{sound_rules}
use Rattle.service_rules.proofs.managed.in_service.Given as goal

abbrev pub invariant-loop-rule : goal.invariant-loop-rule
invariant-loop-rule l =
    (sound_rules (policy_of l.scope.topo) (drop l.rule-index l.rule-items) ≡ true)
    × IsLeast (λ i. list_any (λ r. rule_has_end (site_in l.scope) l.scope.areas.now (map object_seen l.user.items) (rule_seen r) i) (take l.rule-index l.rule-items)) l.least
    × IsBelow (length (policy_of l.scope.topo).ifaces) l.least
