use Rattle.std.proofs.Common.{◌∙◌, ap, map}
use Rattle.topology.proofs.topo.Topo.ifs_of.Goals as goal

pub returns : goal.returns
returns c = ap (map (λ i. i.0)) c.row.ensures ∙ c.args.self.kept.at_router.content c.args.r.0 c.requires
