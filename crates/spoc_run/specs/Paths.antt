-- Which files of a folder are the policy's.
use Rattle.std.specs.Prelude.{ℕ, Bool, not, ◌&&◌, ◌||◌, ◌==◌, List, codes, nat_eq}
use Rattle.std.specs.Str.{bytes_eq}
use Rattle.std.specs.List.{list_any, slice_split, starts_with, ends_with}

-- the part begins with a dot or ends with a tilde
abbrev pub is_skipped_part : List ℕ → Bool
is_skipped_part part = starts_with nat_eq part (codes ".") || ends_with nat_eq part (codes "~")

-- All paths are the policy's but `config`, those that begin with `raw/`, and those with a part, between slashes, that is skipped.
abbrev pub is_policy_path : List ℕ → Bool
is_policy_path path =
    not (bytes_eq path (codes "config") || starts_with nat_eq path (codes "raw/")) && not (list_any is_skipped_part (slice_split (λ byte. byte == 47) path))
