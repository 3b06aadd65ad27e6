-- Boxes in rows, by pairs of networks.
use Rattle.std.specs.Prelude.{ℕ, Bool, ◌&&◌, ◌==◌, List, [], map, Option, Some, None}
use Rattle.std.specs.Global.{Vec}
use Rattle.std.specs.Map.{lookup}
use Rattle.spoc_base.specs.declared.ids.NetId.{NetId}
use Rattle.spoc_base.specs.Pieces.{HeaderBox}
use Rattle.box_algebra.specs.Shown.{header_box_of}
use Rattle.box_algebra.specs.declared.boxes.Box4.{Box4}
use Rattle.permit_pieces.specs.declared.denials.Denials.{Denials}

abbrev pub Key : Type 0
Key = NetId × NetId

-- the row goes from the one network to the other
abbrev pub is_row : ℕ → ℕ → Key → Bool
is_row src dst key = (src == key.0.0) && (dst == key.1.0)

abbrev pub is_key : Key → ℕ → ℕ → Bool
is_key key src dst = (key.0.0 == src) && (key.1.0 == dst)

abbrev pub boxes_of : Option (Vec Box4) → List HeaderBox
boxes_of None = []
boxes_of (Some row) = map header_box_of row.items

-- the boxes of the row, none where there is no row
abbrev pub row_in : List (Key × Vec Box4) → ℕ → ℕ → List HeaderBox
row_in entries src dst = boxes_of (lookup (is_row src dst) entries)

-- the boxes of the denials between two networks
abbrev pub table_of : Denials → ℕ → ℕ → List HeaderBox
table_of denials = row_in denials.rows.entries
