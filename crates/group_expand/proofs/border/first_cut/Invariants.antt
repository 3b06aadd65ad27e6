use Rattle.std.proofs.Common.{◌≡◌, ◌<◌, ℕ, false}
use Rattle.group_expand.specs.Seen.{site_of}
use Rattle.group_expand.specs.Areas.{is_outside}
use Rattle.group_expand.proofs.border.first_cut.Given as goal

abbrev pub invariant-loop-i : goal.invariant-loop-i
invariant-loop-i l = (j : ℕ) → j < l.i → is_outside (site_of l.topo l.graph) l.marks l.seen j ≡ false
