use Rattle.std.proofs.Common.{◌≡◌, drop}
use Rattle.spoc_io.specs.Files.{bytes_at}
use Rattle.spoc_io.proofs.quiet.look_up.Given as goal

abbrev pub invariant-loop-path : goal.invariant-loop-path
invariant-loop-path l = bytes_at (drop l.path-index l.files) l.wanted ≡ bytes_at l.files l.wanted
