use Rattle.std.proofs.Common.{take}
use Rattle.path_walk.specs.Swept.{numbers_of}
use Rattle.path_walk.specs.Tables.{HasEnds, AreNew}
use Rattle.path_walk.proofs.tables.Finds.new.Given as goal

abbrev pub invariant-loop-z : goal.invariant-loop-z
invariant-loop-z l = HasEnds l.fn.from.0 (numbers_of (take l.z-index l.wanted)) l.ends × AreNew l.fn.from.0 (numbers_of l.wanted) l.ends
