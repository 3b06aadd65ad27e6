use Rattle.std.proofs.Common.{◌≡◌, ◌∙◌, map, length}
use Rattle.std.specs.Prelude.{filter}
use Rattle.policy_model.specs.Lists.{has, numbers_below}
use Rattle.policy_model.specs.Objects.{NetObject, area_nets}
use Rattle.policy_model.specs.Zones.{zone_of}
use Rattle.topology.specs.View.{policy_of}
use Rattle.group_expand.specs.Scope.{site_in}
use Rattle.group_expand.specs.Seen.{numbers_of}
use Rattle.group_expand.specs.Sets.{object_seen}
use Rattle.group_expand.proofs.Loops.{if_ok}
use Rattle.group_expand.proofs.Gathering.{nets_inside}
use Rattle.group_expand.proofs.zone_nets.of_area.Goals as goal

pub returns : goal.returns
returns c =
    let s = site_in c.args.scope.now in
    let zones = c.in_ok-zones.zones in
    if_ok c.inside.result
    (λ found. map object_seen found.items ≡ map NetObject (filter (λ n. has zones (zone_of s n)) (numbers_below (length (policy_of c.args.scope.now.topo).nets))))
    (λ found. map object_seen found.items ≡ map NetObject (area_nets s c.args.scope.now.areas.now c.args.k))
    (λ found e. e ∙ nets_inside s c.args.scope.now.areas.now c.args.k zones (numbers_of c.zones.result.now) c.zones.ensures c.in_ok-zones.ensures) c.inside.ensures
