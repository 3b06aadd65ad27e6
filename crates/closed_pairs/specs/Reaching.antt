-- Whether a line reaches into a pair of networks, from the numbers of permits, in one view.
use Rattle.std.specs.Prelude.{◌≡◌, ℕ, ◌<◌, ◌⊎◌, not, ◌&&◌, ◌==◌, Bool, List, filter, length, map, Option, Some, None, if◌then◌else◌}
use Rattle.std.specs.List.{All, list_any}
use Rattle.spoc_base.specs.Address.{Cidr}
use Rattle.policy_model.specs.Policy.{Policy}
use Rattle.policy_model.specs.Places.{prefix_in}
use Rattle.policy_model.specs.Permits.{Permit}
use Rattle.policy_model.specs.Filters.{Line, line_covers}
use Rattle.policy_model.specs.Blocks.{NetPair, permits_between, replied_between, is_round, limited_to, is_empty_line}
use Rattle.permit_lines.specs.Pieces.{numbered_lines}

-- the permits of a pair, by number: those from its source to its destination, and those of the way back
pub record PairNumbers : Type 0 where
  pub pair : NetPair
  pub forward : List ℕ
  pub mirrored : List ℕ

-- The numbers are those of permits.
pub record AreBelow (count : ℕ) (e : PairNumbers) : Type 0 where
  pub forward : All (λ k. k < count) e.forward
  pub mirrored : All (λ k. k < count) e.mirrored

-- those of a pair at an interface
abbrev pub permits_here : Policy → List Permit → ℕ → NetPair → PairNumbers
permits_here p permits i e = record { pair = e; forward = permits_between permits e.src e.dst; mirrored = replied_between p permits i e }

-- the lines of the permits, and then those of the replies
abbrev pub lines_between : Policy → List ℕ → List Permit → PairNumbers → List Line
lines_between p view permits e = numbered_lines p view permits e.forward e.mirrored

-- the prefixes of a pair's networks, none where they are hidden
pub record Ends : Type 0 where
  pub src : Option Cidr
  pub dst : Option Cidr

abbrev pub ends_between : Policy → List ℕ → NetPair → Ends
ends_between p view e = record { src = prefix_in p view e.src; dst = prefix_in p view e.dst }

-- the line with its ends limited to those prefixes
abbrev pub limited_line : Ends → Line → Line
limited_line ends l = record l { src = limited_to ends.src l.src; dst = limited_to ends.dst l.dst }

-- the line, unless it is empty
abbrev pub part_of : Line → Option Line
part_of l = if is_empty_line l then None else Some l

-- The line reaches into a pair with these prefixes, past what the pair's own lines permit.
abbrev pub line_reaches : Ends → List Line → Line → Bool
line_reaches ends own l = not (is_empty_line (limited_line ends l)) && not (list_any (λ m. line_covers m (limited_line ends l)) own)

-- The line reaches into the pair, past the lines of its permits.
abbrev pub reaches_pair : Policy → List ℕ → List Permit → PairNumbers → Line → Bool
reaches_pair p view permits inner l = line_reaches (ends_between p view inner.pair) (lines_between p view permits inner) l

-- another pair whose prefixes hold the second one's
abbrev pub encloses_in : Policy → List ℕ → NetPair → NetPair → Bool
encloses_in p view outer e = not ((outer.src == e.src) && (outer.dst == e.dst)) && is_round p view outer e

-- the pairs from a network to others, without one pair
abbrev pub others_from : NetPair → List ℕ → ℕ → List NetPair
others_from outer dsts src = filter (λ e. not ((outer.src == e.src) && (outer.dst == e.dst))) (map (λ dst. record { src = src; dst = dst }) dsts)

-- a line of one of the pairs that encloses the inner one reaches into it
abbrev pub is_closed_among : Policy → List ℕ → List Permit → List PairNumbers → PairNumbers → Bool
is_closed_among p view permits pairs inner =
    list_any (λ outer. encloses_in p view outer.pair inner.pair && list_any (reaches_pair p view permits inner) (lines_between p view permits outer)) pairs

-- the first pair comes before the second, by source and then by destination
abbrev pub IsBefore : NetPair → NetPair → Type 0
IsBefore a b = (a.src < b.src) ⊎ ((a.src ≡ b.src) × (a.dst < b.dst))

-- The networks of the pair are there.
pub record AreThere (p : Policy) (e : NetPair) : Type 0 where
  pub src : e.src < length p.nets
  pub dst : e.dst < length p.nets
