use Rattle.std.proofs.Common.{◌≤◌, length, arith, ap}
use Rattle.std.specs.Prelude.{◌==◌}
use Rattle.policy_model.specs.Policy.{router_at}
use Rattle.topology.specs.View.{policy_of, sources_of}
use Rattle.topology.specs.Seen.{router_seen}
use Rattle.path_walk.proofs.Rows.{none_below}
use Rattle.path_walk.proofs.Fronts.{refused}
use Rattle.std.proofs.lemmas.Bool.{eqb-true}
use Rattle.std.proofs.lemmas.List.{length-map}
use Rattle.path_walk.proofs.lookup.ifs_of.Goals as goal

pub returns-then-r-routers : goal.returns-then-r-routers
returns-then-r-routers c =
    let p = policy_of c.args.topo in
    let many : length p.routers ≤ c.args.r.0 = omega (arith, c.if-r-routers.true, ap length c.routers.ensures, length-map c.routers.result.now (router_seen (sources_of c.args.topo))) in
    none_below (λ i. router_at p i == c.args.r.0) (length p.ifaces)
    (λ i h. refused (router_at p i == c.args.r.0) (λ e. let same = eqb-true (router_at p i) c.args.r.0 e in absurd (omega (arith, same, many, (c.args.topo.kept.sound.numbered.placed i h).1))))
