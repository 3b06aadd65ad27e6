use Rattle.std.proofs.Common.{map, arith, length}
use Rattle.policy_model.specs.Lists.{has}
use Rattle.policy_model.specs.Zones.{zone_of}
use Rattle.topology.specs.View.{policy_of}
use Rattle.group_expand.specs.Scope.{site_in}
use Rattle.group_expand.specs.Sets.{object_seen}
use Rattle.group_expand.proofs.Gathering.{pushed_net}
use Rattle.group_expand.proofs.zone_nets.inside.Goals as goal

pub loop-n-preserved : goal.loop-n-preserved
loop-n-preserved c =
    pushed_net (λ m. has c.args.zones.now (zone_of (site_in c.args.scope.now) m)) c.loop-n.n (length (policy_of c.args.scope.now.topo).nets)
    (map object_seen c.loop-n.found.items) (map object_seen c.push_inside.new.found.items) _ (omega (arith, c.loop-n-test.true, c.net_count-n-end.ensures)) c.in_ok-push_inside.ensures c.loop-n.invariant
