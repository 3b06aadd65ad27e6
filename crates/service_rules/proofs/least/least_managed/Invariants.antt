use Rattle.std.proofs.Common.{◌≡◌, length, map, take, drop, true}
use Rattle.std.specs.List.{list_any}
use Rattle.policy_model.specs.Faults.{is_managed_end}
use Rattle.topology.specs.View.{policy_of}
use Rattle.group_expand.specs.Sets.{are_there, object_seen}
use Rattle.service_rules.specs.Least.{IsBelow, IsLeast}
use Rattle.service_rules.proofs.least.least_managed.Given as goal

abbrev pub invariant-loop-object : goal.invariant-loop-object
invariant-loop-object l =
    (are_there (policy_of l.topo) (map object_seen (drop l.object-index l.objects)) ≡ true)
    × IsLeast (λ i. list_any (λ o. is_managed_end (policy_of l.topo) i (object_seen o)) (take l.object-index l.objects)) l.least
    × IsBelow (length (policy_of l.topo).ifaces) l.least
