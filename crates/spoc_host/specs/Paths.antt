-- Paths within a folder. The byte 47 is `/`.
use Rattle.std.specs.Prelude.{ℕ, ◌==◌, ◌||◌, Bool, List, [], ◌∷◌, ◌++◌, codes}
use Rattle.std.specs.Str.{bytes_eq}
use Rattle.std.specs.List.{list_any, slice_split}

-- the path of an entry of a folder, whose own path is empty where it is the opened one
abbrev pub path_in : List ℕ → List ℕ → List ℕ
path_in [] name = name
path_in (byte ∷ bytes) name = (byte ∷ bytes) ++ 47 ∷ name

-- a part that names no entry of a folder
abbrev pub is_outer_part : List ℕ → Bool
is_outer_part part = bytes_eq part [] || bytes_eq part (codes ".") || bytes_eq part (codes "..")

-- The path has a part that names no entry of a folder, so it may lead out of the opened one.
abbrev pub leads_out : List ℕ → Bool
leads_out path = list_any is_outer_part (slice_split (λ byte. byte == 47) path)
