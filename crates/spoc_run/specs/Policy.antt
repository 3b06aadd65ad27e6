-- The policy's files, in their order, and how large they may be.
use Rattle.std.specs.Prelude.{ℕ, ◌-◌, min, nat_lt, List, [], ◌∷◌, Option, Some, None, if◌then◌else◌, length}
use Rattle.std.specs.List.{filter}
use Rattle.std.specs.Option.{unwrap_or}
use Rattle.std.specs.Ordering.{nat_cmp}
use Rattle.std.specs.Cmp.Lexicographic.{slice_cmp}
use Rattle.std.specs.FinMap as map
use Rattle.spoc_io.specs.Files.{Files, bytes_at}
use Rattle.spoc_run.specs.Paths.{is_policy_path}

-- the policy's files, in ascending order of their paths' bytes
abbrev pub policy_of : Files → Files
policy_of files = map.entries (map.from_entries {R = slice_cmp nat_cmp} (filter (λ file. is_policy_path file.0) files))

-- the files under these paths
abbrev pub with_bytes : Files → List (List ℕ) → Files
with_bytes files [] = []
with_bytes files (path ∷ rest) = (path, unwrap_or (bytes_at files path) []) ∷ with_bytes files rest

-- the most bytes of one file, and of all together
abbrev pub most_of_one : ℕ
most_of_one = 4194304

abbrev pub most_of_all : ℕ
most_of_all = 67108864

-- the first file that is longer than it may be, where so many bytes are left for all
abbrev pub first_large : ℕ → Files → Option (List ℕ)
first_large left [] = None
first_large left (file ∷ files) = if nat_lt (min most_of_one left) (length file.1) then Some file.0 else first_large (left - length file.1) files
