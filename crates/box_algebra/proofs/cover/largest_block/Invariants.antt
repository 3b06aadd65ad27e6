use Rattle.std.proofs.Common.{◌≡◌, ◌+◌, ◌-◌, ◌%◌, ◌^◌, ◌≤◌}
use Rattle.box_algebra.proofs.cover.largest_block.Given as goal

abbrev pub invariant-loop-bits : goal.invariant-loop-bits
invariant-loop-bits l = (l.bits ≤ 32) × (l.low % 2 ^ l.bits ≡ 0) × (l.low + 2 ^ l.bits ≤ l.end)

abbrev pub decreases-loop-bits : goal.decreases-loop-bits
decreases-loop-bits l = 32 - l.bits
