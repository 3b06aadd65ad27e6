use Rattle.std.proofs.Common.{◌∙◌}
use Rattle.topology.specs.View.{policy_of}
use Rattle.nat_view.specs.Shown.{tags_of, cidrs_of}
use Rattle.nat_view.proofs.Placed.{placed}
use Rattle.nat_view.proofs.view.View.place.Goals as goal

pub returns : goal.returns
returns c = let t = c.args.self.table.now in c.place.ensures ∙ placed (policy_of c.args.self.topo) (tags_of t) (cidrs_of t.seen.items) t.tree c.args.a.0 c.args.self.kept
