-- The lines of a block, piece by piece, in one view.
use Rattle.std.specs.Prelude.{ℕ, List, [], ◌++◌, map, if◌then◌else◌}
use Rattle.spoc_base.specs.Address.{Cidr}
use Rattle.spoc_base.specs.Boxes.{TransportBox}
use Rattle.policy_model.specs.Policy.{Policy}
use Rattle.policy_model.specs.Places.{prefix_in}
use Rattle.policy_model.specs.Permits.{Permit}
use Rattle.policy_model.specs.Filters.{Line}
use Rattle.policy_model.specs.Blocks.{Block, closing_lines}
use Rattle.permit_lines.specs.Pieces.{permit_line, numbered_lines}

-- from one prefix to each of some
abbrev pub lines_from : TransportBox → List Cidr → Cidr → List Line
lines_from box dsts src = map (permit_line box src) dsts

abbrev pub closing_of : Policy → List ℕ → Block → List Line
closing_of p view b = if b.closed then closing_lines (prefix_in p view b.pair.src) (prefix_in p view b.pair.dst) else []

-- the lines of the block's permits, then those of the replies, and then its denial
abbrev pub lines_of_block : Policy → List ℕ → List Permit → Block → List Line
lines_of_block p view permits b = numbered_lines p view permits b.forward b.mirrored ++ closing_of p view b
