use Rattle.std.proofs.Common.{◌+◌, ap, length, arith}
use Rattle.std.proofs.lemmas.List.{length-map}
use Rattle.topology.specs.View.{policy_of, sources_of}
use Rattle.topology.specs.Seen.{router_seen}
use Rattle.nat_view.proofs.Placing.{all_apart}
use Rattle.nat_view.proofs.build.view_table.Goals as goal

pub returns-clause-apart : goal.returns-clause-apart
returns-clause-apart c =
    let found = c.in-Ok.found in
    let routers = c.routers.result.now in
    let n = length-map routers (router_seen (sources_of c.args.topo)) in
    let m = ap length c.routers.ensures in
    all_apart (policy_of c.args.topo) c.args.tags.now found.0.items found.1.items (c.count-zones.result + length routers) (c.in-Ok.ensures {u = tt}).placed
    (omega (arith, n, m, c.count-zones.ensures, c.requires.zones, c.requires.routers))
