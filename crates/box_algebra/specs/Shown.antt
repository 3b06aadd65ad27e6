-- What clauses see of a box.
use Rattle.spoc_base.specs.Shown.{interval_of, box_of}
use Rattle.spoc_base.specs.Pieces.{HeaderBox}
use Rattle.box_algebra.specs.declared.boxes.Box4.{Box4}

abbrev pub header_box_of : Box4 → HeaderBox
header_box_of b = record { src = interval_of b.src; dst = interval_of b.dst; transport = box_of b.t }
