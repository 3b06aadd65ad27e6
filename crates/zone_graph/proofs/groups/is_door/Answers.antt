use Rattle.std.proofs.Common.{◌<◌, length, subst}
use Rattle.topology.specs.View.{policy_of}
use Rattle.zone_graph.proofs.groups.is_door.Goals as goal

pub is_managed_router-requires : goal.is_managed_router-requires
is_managed_router-requires c =
    let p = policy_of c.args.topo in subst (λ i. i.router < length p.routers) c.iface.ensures.seen (c.args.topo.kept.sound.numbered.placed c.args.i c.requires).1
