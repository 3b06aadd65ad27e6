use Rattle.std.proofs.Common.{◌∙◌, ap}
use Rattle.std.specs.Map.{lookup}
use Rattle.permit_pieces.specs.Rows.{boxes_of, is_key, is_row}
use Rattle.permit_pieces.proofs.Tables.{taken_out}
use Rattle.permit_pieces.proofs.denials.Denials.take.Goals as goal

pub returns-in-Some-clause-others : goal.returns-in-Some-clause-others
returns-in-Some-clause-others c = λ src dst.
    ap boxes_of (c.swap_remove.ensures.updates.0 (record { 0 = src }, record { 0 = dst })) ∙ taken_out (is_key c.args.key src dst) (lookup (is_row src dst) c.args.self.now.rows.entries)
