use Rattle.std.proofs.Common.{ℕ, ◌∙◌, ap, sym}
use Rattle.std.specs.Option.{option_copied_mut}
use Rattle.std.specs.BTreeMap.{BTreeMap}
use Rattle.path_walk.specs.declared.marks.Marks.{Marks}
use Rattle.path_walk.specs.Seen.{path_seen}
use Rattle.path_walk.proofs.Ends.{added_nowhere}
use Rattle.path_walk.proofs.Wanted.{ends_nowhere}
use Rattle.path_walk.proofs.tables.Finds.add_walk.Goals as goal

pub returns-in-None-clause-zones : goal.returns-in-None-clause-zones
returns-in-None-clause-zones c = ends_nowhere c.args.self.now.ends c.get_mut.follows.lender-at-none (ap (λ (m : BTreeMap ℕ Marks). m.entries) c.get_mut.follows.holds-at-none)

pub returns-in-None-clause-marks : goal.returns-in-None-clause-marks
returns-in-None-clause-marks c = added_nowhere c.args.end.0 (path_seen c.args.path.now) c.args.self.now.ends c.get_mut.follows.lender-at-none (sym c.get_mut.ensures.value ∙ ap option_copied_mut c.in-None.is) (ap (λ (m : BTreeMap ℕ Marks). m.entries) c.get_mut.follows.holds-at-none)
