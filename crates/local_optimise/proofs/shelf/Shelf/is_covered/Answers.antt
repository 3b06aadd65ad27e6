use Rattle.std.proofs.Common.{◌∙◌, ap}
use Rattle.std.specs.Prelude.{is_some}
use Rattle.dev_config.specs.Seen.{line_of}
use Rattle.local_optimise.specs.Held.{held_by}
use Rattle.local_optimise.proofs.Shelving.{covered_by_place}
use Rattle.local_optimise.proofs.shelf.Shelf.is_covered.Goals as goal

pub returns : goal.returns
returns c = c.is_some.ensures ∙ (ap is_some c.nearest.ensures ∙ covered_by_place (line_of c.args.line.now) (held_by c.args.self.now))
