use Rattle.std.proofs.Common.{◌<◌, ℕ, length, subst, sym}
use Rattle.policy_model.specs.Tags.{ifaces_of}
use Rattle.topology.specs.View.{policy_of}
use Rattle.zone_graph.proofs.Routers.{in_row, at_row}
use Rattle.zone_graph.proofs.forest.net_in.Goals as goal

pub iface-requires : goal.iface-requires
iface-requires c =
    let p = policy_of c.args.topo in
    subst (λ (x : ℕ). x < length p.ifaces) (sym (at_row c.ifs_of.result.now (ifaces_of p c.args.r.0) c.ifs_of.ensures c.args.k)) (in_row p c.args.r.0 c.args.k c.requires.place).0

pub returns-clause-below : goal.returns-clause-below
returns-clause-below c =
    let p = policy_of c.args.topo in
    let there = subst (λ (x : ℕ). x < length p.ifaces) (sym (at_row c.ifs_of.result.now (ifaces_of p c.args.r.0) c.ifs_of.ensures c.args.k)) (in_row p c.args.r.0 c.args.k c.requires.place).0 in
    subst (λ i. i.net < length p.nets) c.iface.ensures.seen (c.args.topo.kept.sound.numbered.placed _ there).0
