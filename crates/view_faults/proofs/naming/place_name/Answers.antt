use Rattle.std.proofs.Common.{subst, arith}
use Rattle.std.specs.Prelude.{IsTrue}
use Rattle.std.proofs.lemmas.Bool.{ltb-true}
use Rattle.policy_model.specs.Zones.{zone_count}
use Rattle.policy_model.specs.FirstFault.{is_there}
use Rattle.topology.specs.View.{policy_of}
use Rattle.nat_view.specs.Fails.{place_seen}
use Rattle.nat_view.specs.declared.fail.ViewAt.{ViewAt}
use Rattle.view_faults.specs.Sites.{site_of}
use Rattle.view_faults.proofs.Calling.{zones_counted}
use Rattle.view_faults.proofs.naming.place_name.Goals as goal

pub zone_name-requires-clause-there : goal.zone_name-requires-clause-there
zone_name-requires-clause-there c =
    let s = site_of c.args.topo c.args.graph.now in
    let less = ltb-true c.in-Zone.z.0 (zone_count s) (subst (λ (at : ViewAt). IsTrue (is_there s (place_seen at))) c.in-Zone.is c.requires.there) in
    let count = zones_counted (policy_of c.args.topo) c.args.graph.now c.requires.graph in
    omega (arith, less, count)
