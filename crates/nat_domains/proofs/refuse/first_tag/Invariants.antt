use Rattle.topology.specs.View.{policy_of}
use Rattle.nat_domains.specs.Places.{NonePasses}
use Rattle.nat_domains.specs.Translated.{is_tag_at, numbers_of}
use Rattle.nat_domains.proofs.refuse.first_tag.Given as goal

abbrev pub invariant-loop-k : goal.invariant-loop-k
invariant-loop-k l = NonePasses (is_tag_at (policy_of l.topo) l.n.0 (numbers_of l.row)) l.fn.from l.k
