-- The lines that remain below, chained by their actions too.
use Rattle.std.specs.Prelude.{◌≡◌, length}
use Rattle.local_optimise.specs.declared.remaining.Remaining.{Remaining}
use Rattle.local_optimise.specs.Keys.{action_key}
use Rattle.local_optimise.specs.Chained.{AreChained}
use Rattle.local_optimise.specs.Held.{held_by, line_at, IsIndexed}

pub record AreRemaining (below : Remaining) : Type 0 where
  pub indexed : IsIndexed below.shelf
  pub count : length below.actions.links.items ≡ length below.shelf.lines.items
  pub chained : AreChained below.actions (λ i. action_key (line_at (held_by below.shelf) i).permit)
