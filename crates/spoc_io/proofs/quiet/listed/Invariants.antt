use Rattle.std.proofs.Common.{◌≡◌, take}
use Rattle.spoc_io.specs.Files.{paths}
use Rattle.spoc_io.proofs.quiet.listed.Given as goal

abbrev pub invariant-loop-path : goal.invariant-loop-path
invariant-loop-path l = l.all.items ≡ paths (take l.path-index l.files)
