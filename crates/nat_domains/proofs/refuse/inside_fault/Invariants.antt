use Rattle.nat_domains.specs.Marks.{site_of}
use Rattle.nat_domains.specs.Translated.{HasNoInside}
use Rattle.nat_domains.proofs.refuse.inside_fault.Given as goal

abbrev pub invariant-loop-n : goal.invariant-loop-n
invariant-loop-n l = HasNoInside (site_of l.topo l.graph) l.table l.n
