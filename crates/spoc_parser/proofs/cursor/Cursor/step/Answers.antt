use Rattle.std.proofs.lemmas.List.Elements.{All-drop, All-take}
use Rattle.spoc_parser.specs.Reach.{IsInReach}
use Rattle.spoc_parser.proofs.cursor.Cursor.step.Goals as goal

pub invariant_of-self : goal.invariant_of-self
invariant_of-self c = record { within = All-take IsInReach _ _ (All-drop IsInReach 1 _ c.args.self.now.within) }
