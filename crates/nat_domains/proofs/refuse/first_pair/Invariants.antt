use Rattle.std.proofs.Common.{ℕ, ◌<◌}
use Rattle.topology.specs.View.{policy_of}
use Rattle.nat_domains.specs.Translated.{HasNoTwo, numbers_of}
use Rattle.nat_domains.proofs.refuse.first_pair.Given as goal

abbrev pub invariant-loop-n : goal.invariant-loop-n
invariant-loop-n l = (m : ℕ) → m < l.n → HasNoTwo (policy_of l.topo) (numbers_of l.row) m
