use Rattle.std.proofs.Common.{◌∙◌}
use Rattle.spoc_base.specs.Shown.{cidr_of}
use Rattle.topology.specs.View.{policy_of}
use Rattle.nat_view.specs.Shown.{tags_of, cidrs_of}
use Rattle.nat_view.proofs.Placed.{within}
use Rattle.nat_view.proofs.view.View.inside.Goals as goal

pub returns : goal.returns
returns c = let t = c.args.self.table.now in c.in_ok-found.ensures {u = tt} ∙ within (policy_of c.args.self.topo) (tags_of t) (cidrs_of t.seen.items) t.tree (cidr_of c.args.p) c.args.self.kept
