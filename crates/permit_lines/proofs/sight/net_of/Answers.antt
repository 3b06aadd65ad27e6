use Rattle.std.proofs.Common.{◌<◌, length, subst}
use Rattle.topology.specs.View.{policy_of}
use Rattle.permit_lines.proofs.sight.net_of.Goals as goal

pub returns-clause-below : goal.returns-clause-below
returns-clause-below c =
    let p = policy_of c.args.topo in subst (λ i. i.net < length p.nets) c.iface.ensures.seen (c.args.topo.kept.sound.numbered.placed c.args.i.0 c.requires).0
