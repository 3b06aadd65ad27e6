-- What clauses see of files.
use Rattle.std.specs.Prelude.{ℕ, List}
use Rattle.device_files.specs.declared.files.DeviceFile.{DeviceFile}

-- a file's name and text
abbrev pub file_of : DeviceFile → List ℕ × List ℕ
file_of f = (f.name, f.bytes)
