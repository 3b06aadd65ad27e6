-- The lines from a place on don't cover.
use Rattle.std.proofs.Common.{◌≡◌, ◌≤◌, length, map}
use Rattle.dev_config.specs.Seen.{line_of}
use Rattle.local_optimise.specs.Keys.{is_cover}
use Rattle.local_optimise.specs.Chained.{greatest}
use Rattle.local_optimise.specs.Held.{line_at, last_cover}
use Rattle.local_optimise.proofs.shelf.Shelf.last_of_all.Given as goal

abbrev pub invariant-loop-left : goal.invariant-loop-left
invariant-loop-left l = record {
  within : l.left ≤ length l.self.lines.items;
  same : last_cover l.any (line_of l.line) (map line_of l.self.lines.items) ≡ greatest (λ i. is_cover l.any (line_of l.line) (line_at (map line_of l.self.lines.items) i)) l.left;
}

abbrev pub decreases-loop-left : goal.decreases-loop-left
decreases-loop-left l = l.left
