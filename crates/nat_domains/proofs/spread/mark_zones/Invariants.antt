use Rattle.std.proofs.Common.{take}
use Rattle.std.specs.Prelude.{map}
use Rattle.nat_domains.specs.Marks.{site_of}
use Rattle.nat_domains.specs.Spreading.{MarksZonesOf}
use Rattle.nat_domains.proofs.spread.mark_zones.Given as goal

abbrev pub invariant-loop-i : goal.invariant-loop-i
invariant-loop-i l = MarksZonesOf (site_of l.topo l.graph) l.tag.0 (map (λ i. i.0) (take l.i-index l.i-items)) l.fn.marks l.marks l.fn.waiting.items l.waiting.items
