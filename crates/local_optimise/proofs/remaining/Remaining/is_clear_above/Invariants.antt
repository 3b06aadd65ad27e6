-- Only lines of the other action at the cursor or before it can be the last one that meets the line.
use Rattle.std.proofs.Common.{not, length}
use Rattle.policy_model.specs.Filters.{line_meets}
use Rattle.dev_config.specs.Seen.{line_of}
use Rattle.local_optimise.specs.Keys.{action_key}
use Rattle.local_optimise.specs.Held.{held_by, line_at}
use Rattle.local_optimise.proofs.Places.{steps_left}
use Rattle.local_optimise.proofs.Walks.{Walks}
use Rattle.local_optimise.proofs.Repeating.{action_keys}
use Rattle.local_optimise.proofs.remaining.Remaining.is_clear_above.Given as goal

abbrev pub invariant-loop-cursor : goal.invariant-loop-cursor
invariant-loop-cursor l =
    let lines = held_by l.self.shelf in
    Walks (action_keys lines) (action_key (not l.line.permit)) (λ i. line_meets (line_at lines i) (line_of l.line)) (length lines) l.cursor

abbrev pub decreases-loop-cursor : goal.decreases-loop-cursor
decreases-loop-cursor l = steps_left l.cursor
