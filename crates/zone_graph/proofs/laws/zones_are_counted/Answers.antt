use Rattle.zone_graph.proofs.Counted.{counted}
use Rattle.zone_graph.proofs.laws.zones_are_counted.Goals as goal

pub returns : goal.returns
returns c = counted
