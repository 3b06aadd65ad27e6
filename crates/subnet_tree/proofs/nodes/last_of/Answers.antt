use Rattle.std.proofs.Common.{suc, ◌-◌, map, arith}
use Rattle.subnet_tree.specs.Shown.{knot_of}
use Rattle.subnet_tree.proofs.Building.{none_of_none, last_within}
use Rattle.subnet_tree.proofs.nodes.last_of.Goals as goal

pub returns-then-end-eq0-clause-last : goal.returns-then-end-eq0-clause-last
returns-then-end-eq0-clause-last c = none_of_none (map knot_of c.args.nodes.now) c.args.a.0 c.args.end c.if-end-eq0.true

pub returns-else-end-eq0-clause-below : goal.returns-else-end-eq0-clause-below
returns-else-end-eq0-clause-below c = last_within c.climb.result (map knot_of c.args.nodes.now) c.args.a.0 (suc (c.args.end - 1)) c.args.end c.climb.ensures (omega arith)
