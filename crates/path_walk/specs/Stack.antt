-- The branches of a search in memory, the next one first.
use Rattle.std.specs.Prelude.{List, map, reverse}
use Rattle.path_walk.specs.Search as plain
use Rattle.path_walk.specs.Seen.{step_seen}
use Rattle.path_walk.specs.declared.search.Branch.{Branch}

abbrev pub branch_seen : Branch → plain.Branch
branch_seen b = record { depth = b.depth; crossing = step_seen b.crossing }

abbrev pub open_seen : List Branch → List plain.Branch
open_seen branches = reverse (map branch_seen branches)
