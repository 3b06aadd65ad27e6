use Rattle.outcome_laws.proofs.Straight.{one_router_sends}
use Rattle.outcome_laws.proofs.routers.tables_of_one_router_send.Goals as goal

pub returns : goal.returns
returns c = one_router_sends
