use Rattle.std.proofs.Common.{◌≡◌, ◌||◌, false, take}
use Rattle.std.specs.Prelude.{◌==◌}
use Rattle.std.specs.List.{list_any}
use Rattle.path_walk.proofs.onward.passes_iface.Given as goal

abbrev pub invariant-loop-c : goal.invariant-loop-c
invariant-loop-c l = list_any (λ c. (c.enter.0 == l.fn.i.0) || (c.leave.0 == l.fn.i.0)) (take l.c-index l.path) ≡ false
