-- How the walk through a real folder goes on at each entry.
use Rattle.std.specs.Prelude.{◌≤◌, ℕ, ◌||◌, nat_le, Bool, false, List, [], ◌∷◌}
use Rattle.spoc_host.specs.declared.walk.Kind.{Kind}
use Rattle.spoc_host.specs.declared.walk.Kind.TheVariants.{Plain, Folder, Other}
use Rattle.spoc_host.specs.declared.walk.Subfolder.{Subfolder}

-- the most entries of an opened folder, those of all the folders in it among them
abbrev pub most_entries : ℕ
most_entries = 100000

-- how many folders may lie in one another inside the opened one
abbrev pub most_levels : ℕ
most_levels = 32

-- an entry that lies in a folder of this level is one folder too deep
abbrev pub is_too_deep : Kind → ℕ → Bool
is_too_deep Plain level = false
is_too_deep Folder level = nat_le most_levels level
is_too_deep Other level = false

-- The walk fails at an entry, where so many were met before it.
abbrev pub ends_walk : (entries level : ℕ) → Kind → Bool
ends_walk entries level kind = nat_le most_entries entries || is_too_deep kind level

-- the files that are found at an entry: a plain file's path, and no others
abbrev pub found_at : Kind → List ℕ → List (List ℕ)
found_at Plain path = path ∷ []
found_at Folder path = []
found_at Other path = []

-- the folders that are still to be walked because of an entry: a folder's path, and no others
abbrev pub waiting_at : Kind → List ℕ → ℕ → List Subfolder
waiting_at Plain path level = []
waiting_at Folder path level = record { path = path; level = level } ∷ []
waiting_at Other path level = []

-- No more files are found than entries are met, and no more entries are met than are allowed.
pub record IsWithin (found entries : ℕ) : Type 0 where
  pub found_fits : found ≤ entries
  pub entries_fit : entries ≤ most_entries
