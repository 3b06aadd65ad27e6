-- Only lines of the key at the cursor or before it can be the last one that covers.
use Rattle.std.proofs.Common.{length, map}
use Rattle.policy_model.specs.Filters.{line_covers}
use Rattle.dev_config.specs.Seen.{line_of}
use Rattle.local_optimise.specs.Keys.{key_of}
use Rattle.local_optimise.specs.Held.{line_at}
use Rattle.local_optimise.proofs.Places.{steps_left}
use Rattle.local_optimise.proofs.Walks.{Walks}
use Rattle.local_optimise.proofs.shelf.Shelf.last_with.Given as goal

abbrev pub invariant-loop-cursor : goal.invariant-loop-cursor
invariant-loop-cursor l =
    let lines = map line_of l.self.lines.items in
    Walks (λ i. key_of (line_at lines i)) l.fn.key (λ i. line_covers (line_at lines i) (line_of l.line)) (length lines) l.cursor

abbrev pub decreases-loop-cursor : goal.decreases-loop-cursor
decreases-loop-cursor l = steps_left l.cursor
