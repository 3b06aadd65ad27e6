use Rattle.route_laws.proofs.Marking.{marks_give}
use Rattle.route_laws.proofs.hops.marks_give_hops.Goals as goal

pub returns : goal.returns
returns c = marks_give
