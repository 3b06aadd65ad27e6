use Rattle.std.proofs.Common.{◌≡◌, ◌++◌, map, flat_map, drop, true}
use Rattle.policy_model.specs.Permits.{ends_of}
use Rattle.topology.specs.View.{policy_of}
use Rattle.group_expand.specs.Sets.{are_there, object_seen}
use Rattle.permit_set.specs.Shown.{end_of}
use Rattle.service_rules.specs.Scope.{site_in}
use Rattle.service_rules.proofs.ends.ends.Given as goal

abbrev pub invariant-loop-object : goal.invariant-loop-object
invariant-loop-object l =
    (are_there (policy_of l.scope.topo) (map object_seen (drop l.object-index l.objects)) ≡ true)
    × (map end_of l.found.items ++ flat_map (ends_of (site_in l.scope)) (map object_seen (drop l.object-index l.objects))
    ≡ flat_map (ends_of (site_in l.scope)) (map object_seen l.objects))
