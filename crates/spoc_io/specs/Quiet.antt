-- A folder in memory whose calls never fail.
use Rattle.std.specs.Prelude.{ℕ, Result}
use Rattle.spoc_io.specs.Files.{Files}
use Rattle.spoc_io.specs.Memory.{after_large}
use Rattle.spoc_io.specs.declared.io.IoFail.{IoFail}

-- its files, and how many reads met a file that was too large
pub record Quiet : Type 0 where
  pub files : Files
  pub larges : ℕ

-- the folder after a call of `read` with this result
abbrev pub after_read : {T : Type 0} → Quiet → Result T IoFail → Quiet
after_read q result = record { files = q.files; larges = after_large q.larges result }
