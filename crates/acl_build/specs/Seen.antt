-- What clauses see of what is placed at an interface, and of lines that are added.
use Rattle.std.specs.Prelude.{◌≡◌, List, ◌++◌, map}
use Rattle.policy_model.specs.Blocks.{Block}
use Rattle.policy_model.specs.Filters as filters
use Rattle.permit_set.specs.declared.block.PairBlock.{PairBlock}
use Rattle.permit_set.specs.declared.block.Placement.{Placement}
use Rattle.dev_config.specs.declared.setup.Line.{Line}
use Rattle.dev_config.specs.Seen.{line_of}

abbrev pub block_seen : PairBlock → Block
block_seen b = record { pair = record { src = b.src.0; dst = b.dst.0 }; forward = b.forward; mirrored = b.mirrored; closed = b.closed }

abbrev pub placement_seen : Placement → List Block
placement_seen place = map block_seen place.pairs

-- the list has grown by these lines
abbrev pub GrowsBy : List filters.Line → List Line → List Line → Type 0
GrowsBy added before now = map line_of now ≡ map line_of before ++ added
