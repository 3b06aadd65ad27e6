use Rattle.box_algebra.specs.Shown.{header_box_of}
use Rattle.piece_laws.proofs.Inclusion.{covering_result}
use Rattle.box_algebra.proofs.boxes.covers.Goals as goal

pub returns-clause-inclusion : goal.returns-clause-inclusion
returns-clause-inclusion c = λ set. covering_result c.is_covering.result (header_box_of c.args.a.now) (header_box_of c.args.b.now) c.is_covering.ensures (c.box_is_proper.ensures set)
