use Rattle.std.proofs.Common.{◌≡◌, ◌++◌, map, drop, true}
use Rattle.policy_model.specs.Permits.{service_items}
use Rattle.topology.specs.Seen.{service_seen}
use Rattle.topology.specs.View.{policy_of, sources_of}
use Rattle.group_expand.specs.Sets.{object_seen}
use Rattle.permit_set.specs.Shown.{permit_of}
use Rattle.service_rules.specs.Ends.{is_action}
use Rattle.service_rules.specs.Scope.{site_in}
use Rattle.service_rules.proofs.Rules.{rules_to_come, sound_rules}
use Rattle.service_rules.proofs.permits.add_service.Given as goal

abbrev pub invariant-loop-rule : goal.invariant-loop-rule
invariant-loop-rule l =
    (sound_rules (policy_of l.scope.topo) (drop l.rule-index l.rule-items) ≡ true)
    × (map permit_of l.found.items ++ rules_to_come (site_in l.scope) l.scope.areas.now (map object_seen l.user.items) l.deny (drop l.rule-index l.rule-items)
    ≡ map permit_of l.fn.found.items ++ service_items (site_in l.scope) l.scope.areas.now (is_action l.deny) (service_seen (sources_of l.scope.topo) l.service))
