use Rattle.std.proofs.Common.{◌≡◌, map, take}
use Rattle.rule_distribute.proofs.closed.with_flags.Given as goal

abbrev pub invariant-loop-k : goal.invariant-loop-k
invariant-loop-k l = record {
  numbers : map (λ e. e.0) l.places.items ≡ take l.k l.row;
  flags : map (λ e. e.1) l.places.items ≡ take l.k l.flags;
}
