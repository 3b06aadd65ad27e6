use Rattle.std.proofs.Common.{Some, ap, ◌∙◌}
use Rattle.spoc_io.specs.Quiet.{Quiet}
use Rattle.spoc_io.proofs.FileLemmas.{told_paths}
use Rattle.spoc_io.proofs.quiet.QuietFolderFolder.list.Goals as goal

pub returns-clause-paths : goal.returns-clause-paths
returns-clause-paths c told e =
    let is_told = ap (λ (q : Quiet). Some q.files) c.self.view_is ∙ e in
    rw (c.in_ok-all.ensures, c.deref.ensures.value) (told_paths _ told is_told c.self.invariant)
