use Rattle.std.proofs.lemmas.Result.{IfOk-weaker}
use Rattle.topology.specs.View.{policy_of}
use Rattle.zone_graph.specs.Grouped.{IsGraphOf}
use Rattle.policy_outcome.specs.Found.{IsZoned}
use Rattle.policy_meaning.proofs.Tables.{zoned}
use Rattle.policy_meaning.proofs.steps.zones_found.Goals as goal

pub returns : goal.returns
returns c = IfOk-weaker c.zones.result (IsGraphOf (policy_of c.args.topo)) (IsZoned c.args.topo) (zoned c.args.topo) c.zones.ensures
