use Rattle.std.proofs.Common.{◌&&◌}
use Rattle.nat_domains.specs.Marks.{is_marked}
use Rattle.nat_domains.specs.Places.{NonePasses}
use Rattle.nat_domains.proofs.table.first_shared.Given as goal

abbrev pub invariant-loop-k : goal.invariant-loop-k
invariant-loop-k l = NonePasses (λ k. is_marked l.one k && is_marked l.other k) 0 l.k
