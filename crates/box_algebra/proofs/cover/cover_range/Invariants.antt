use Rattle.std.proofs.Common.{◌≡◌, ◌++◌, ◌+◌, ◌-◌, ◌≤◌, map}
use Rattle.spoc_base.specs.Address.{cover_of}
use Rattle.spoc_base.specs.Shown.{cidr_of, interval_of}
use Rattle.box_algebra.proofs.Covering.{from_to}
use Rattle.box_algebra.proofs.cover.cover_range.Given as goal

abbrev pub invariant-loop-low : goal.invariant-loop-low
invariant-loop-low l = (l.end ≡ l.fn.r.hi.0 + 1) × (l.end ≤ 4294967296) × (l.low ≤ l.end) × (map cidr_of l.cover.items ++ cover_of (from_to l.low l.fn.r.hi.0) ≡ cover_of (interval_of l.fn.r))

abbrev pub decreases-loop-low : goal.decreases-loop-low
decreases-loop-low l = l.end - l.low
