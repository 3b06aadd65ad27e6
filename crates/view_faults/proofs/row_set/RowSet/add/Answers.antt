use Rattle.std.proofs.Common.{◌∙◌, ap, map}
use Rattle.view_faults.proofs.Counting.{numbers_of, row_added}
use Rattle.view_faults.proofs.row_set.RowSet.add.Goals as goal

pub returns : goal.returns
returns c =
    λ rows e. ap (map (λ row. numbers_of row.now)) c.in_ok-insert.ensures.keys ∙ row_added (λ row. row.now) c.self.inside.set.keys c.args.row rows (c.self.view_is ∙ e)
