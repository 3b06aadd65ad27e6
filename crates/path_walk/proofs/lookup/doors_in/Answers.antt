use Rattle.std.proofs.Common.{length, arith, ◌&&◌}
use Rattle.std.specs.Prelude.{◌==◌}
use Rattle.std.proofs.lemmas.Bool.{eqb-true, and_right}
use Rattle.policy_model.specs.Policy.{router_at, net_at, is_managed}
use Rattle.policy_model.specs.Zones.{zone_at}
use Rattle.topology.specs.View.{policy_of}
use Rattle.path_walk.specs.Seen.{site_of}
use Rattle.path_walk.proofs.Rows.{none_below}
use Rattle.path_walk.proofs.Fronts.{refused}
use Rattle.path_walk.proofs.lookup.doors_in.Goals as goal

pub returns-then-z-count : goal.returns-then-z-count
returns-then-z-count c =
    let p = policy_of c.args.topo in
    let s = site_of p c.args.graph.now in
    none_below (λ i. is_managed p (router_at p i) && (zone_at s i == c.args.z.0)) (length p.ifaces)
    (λ i h. and_right (is_managed p (router_at p i)) (zone_at s i == c.args.z.0)
    (refused (zone_at s i == c.args.z.0) (λ e.
    let same = eqb-true (zone_at s i) c.args.z.0 e in
    let net = (c.args.topo.kept.sound.numbered.placed i h).0 in
    let zone = c.requires.numbers.below (net_at p i) (omega (arith, net, c.requires.table.each)) in
    absurd (omega (arith, same, zone, c.if-z-count.true, c.count.ensures)))))
