use Rattle.box_algebra.specs.Shown.{header_box_of}
use Rattle.piece_laws.proofs.Inclusion.{meeting_result}
use Rattle.box_algebra.proofs.boxes.meets.Goals as goal

pub returns-clause-common : goal.returns-clause-common
returns-clause-common c = λ first second. meeting_result c.is_meeting.result (header_box_of c.args.a.now) (header_box_of c.args.b.now) c.is_meeting.ensures (c.box_is_proper.ensures first) (c.box_is_proper-2.ensures second)
