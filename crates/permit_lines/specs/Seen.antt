-- What clauses see of the lines of permits.
use Rattle.std.specs.Prelude.{◌≡◌, List, ◌++◌, map, flat_map}
use Rattle.spoc_base.specs.Shown.{cidr_of, box_of}
use Rattle.policy_model.specs.Filters.{Line}
use Rattle.permit_lines.specs.Pieces.{Cover, lines_of_cover}
use Rattle.permit_lines.specs.declared.cover.PermitCover.{PermitCover}

abbrev pub cover_seen : PermitCover → Cover
cover_seen c = record { srcs = map cidr_of c.srcs; dsts = map cidr_of c.dsts; box = box_of c.t }

-- the lines of all of them, one after the other
abbrev pub lines_of_covers : List PermitCover → List Line
lines_of_covers covers = flat_map (λ c. lines_of_cover (cover_seen c)) covers

-- the lines have grown by these
abbrev pub GrowsBy : List Line → List PermitCover → List PermitCover → Type 0
GrowsBy added before now = lines_of_covers now ≡ lines_of_covers before ++ added
