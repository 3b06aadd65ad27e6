use Rattle.std.proofs.Common.{ap}
use Rattle.std.proofs.lemmas.List.{get_or_default}
use Rattle.zone_graph.specs.declared.marks.PairMarks.{PairMarks}
use Rattle.static_routes.proofs.tables.marks_at.Goals as goal

pub returns : goal.returns
returns c t = ap (λ (x : PairMarks). x.marks) (get_or_default c.args.tables.now c.args.k c.index-tables-k.result t c.requires)
