use Rattle.topology.specs.View.{policy_of}
use Rattle.nat_view.specs.Tables.{ArePrefixesBelow}
use Rattle.nat_view.specs.Shown.{numbers_of, cidrs_of}
use Rattle.nat_view.proofs.table.prefixes.Given as goal

abbrev pub invariant-loop-n : goal.invariant-loop-n
invariant-loop-n l = ArePrefixesBelow (policy_of l.topo) (numbers_of l.tags) (cidrs_of l.seen.items) l.n
