-- The lines of permits, piece by piece, in one view.
use Rattle.std.specs.Prelude.{ℕ, true, List, [], ◌∷◌, ◌++◌, map, flat_map, option_to_list, Option}
use Rattle.spoc_base.specs.Address.{Cidr}
use Rattle.spoc_base.specs.Boxes.{TransportBox}
use Rattle.policy_model.specs.Lists.{pairs_of}
use Rattle.policy_model.specs.Policy.{Policy}
use Rattle.policy_model.specs.Permits.{Permit, mirrors_of}
use Rattle.policy_model.specs.Filters.{Line}
use Rattle.policy_model.specs.Blocks.{end_cover, permit_lines, permit_at}

-- the prefixes that make up a permit's ends, and its transports
pub record Cover : Type 0 where
  pub srcs : List Cidr
  pub dsts : List Cidr
  pub box : TransportBox

-- what permits a transport from one prefix to another
abbrev pub permit_line : TransportBox → Cidr → Cidr → Line
permit_line box src dst = record { permit = true; src = src ∷ []; dst = dst ∷ []; box = box }

-- a line for each source with each destination
abbrev pub lines_of_cover : Cover → List Line
lines_of_cover c = map (λ e. permit_line c.box e.0 e.1) (pairs_of c.srcs c.dsts)

-- those of a permit
abbrev pub cover_in : Policy → List ℕ → Permit → Cover
cover_in p view q = record { srcs = end_cover p view q.src; dsts = end_cover p view q.dst; box = q.box }

-- the lines of a permit, by its number
abbrev pub forward_lines : Policy → List ℕ → List Permit → ℕ → List Line
forward_lines p view permits k = permit_lines p view (permit_at permits k)

-- the lines of the replies to a permit
abbrev pub reply_lines : Policy → List ℕ → Permit → List Line
reply_lines p view q = flat_map (permit_lines p view) (mirrors_of q)

abbrev pub mirrored_lines : Policy → List ℕ → List Permit → ℕ → List Line
mirrored_lines p view permits k = reply_lines p view (permit_at permits k)

-- the lines of a permit, where there is one
abbrev pub some_lines : Policy → List ℕ → Option Permit → List Line
some_lines p view q = flat_map (permit_lines p view) (option_to_list q)

-- the lines of the permits of these numbers, and then those of the replies
abbrev pub numbered_lines : Policy → List ℕ → List Permit → List ℕ → List ℕ → List Line
numbered_lines p view permits forward mirrored = flat_map (forward_lines p view permits) forward ++ flat_map (mirrored_lines p view permits) mirrored
