use Rattle.std.proofs.Common.{◌≡◌, ◌+◌, ◌≤◌, length, drop, true}
use Rattle.topology.specs.View.{policy_of, sources_of}
use Rattle.service_rules.specs.Counted.{counted, most}
use Rattle.service_rules.specs.Ends.{listed}
use Rattle.service_rules.specs.Scope.{site_in}
use Rattle.service_rules.proofs.Rules.{services_to_come, sound_services}
use Rattle.service_rules.proofs.count.count.Given as goal

abbrev pub invariant-loop-service : goal.invariant-loop-service
invariant-loop-service l =
    (sound_services (policy_of l.scope.topo) (sources_of l.scope.topo) (drop l.service-index l.service-items) ≡ true)
    × (l.count ≤ most)
    × (counted (l.count + length (services_to_come (site_in l.scope) l.scope.areas.now l.deny (sources_of l.scope.topo) (drop l.service-index l.service-items)))
    ≡ counted (length (listed l.deny (site_in l.scope) l.scope.areas.now)))
