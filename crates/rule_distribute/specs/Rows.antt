-- Which permits stand in the row of a pair of networks.
use Rattle.std.specs.Prelude.{◌≡◌, ℕ, ◌<◌, Bool, true, false, not, ◌&&◌, ◌||◌, ◌==◌, if◌then◌else◌, List, [], ◌∷◌, filter, length, slice_index, slice_index_or}
use Rattle.std.specs.List.{Contains}
use Rattle.policy_model.specs.Lists.{numbers_below}
use Rattle.policy_model.specs.Permits.{Permit, has_replies}
use Rattle.policy_model.specs.Blocks.{permit_at}

abbrev pub pair_at : List (ℕ × ℕ) → ℕ → ℕ × ℕ
pair_at pairs w = slice_index_or pairs w (0, 0)

abbrev pub same_pair : ℕ × ℕ → ℕ × ℕ → Bool
same_pair a b = (a.0 == b.0) && (a.1 == b.1)

-- the networks of the permit, or of the way back
abbrev pub ends_of : Bool → Permit → ℕ × ℕ
ends_of false q = (q.src.net, q.dst.net)
ends_of true q = (q.dst.net, q.src.net)

-- The permit goes between different zones, has replies where the way back is asked for, and its networks are those of the row.
abbrev pub belongs : List ℕ → List (ℕ × ℕ) → Bool → Permit → ℕ → Bool
belongs zones pairs back q w =
    not (slice_index zones q.src.net == slice_index zones q.dst.net) && (not back || has_replies q.box) && same_pair (ends_of back q) (pair_at pairs w)

-- the numbers of the permits in a row, of the first ones
abbrev pub row_below : List ℕ → List (ℕ × ℕ) → Bool → List Permit → ℕ → ℕ → List ℕ
row_below zones pairs back permits count w = filter (λ k. belongs zones pairs back (permit_at permits k) w) (numbers_below count)

-- The pairs have the networks of each permit between different zones, both ways round.
abbrev pub HasAll : List ℕ → List (ℕ × ℕ) → List Permit → Type 0
HasAll zones pairs permits =
    (k : ℕ) (back : Bool) → k < length permits → (slice_index zones (permit_at permits k).src.net == slice_index zones (permit_at permits k).dst.net) ≡ false →
    Contains pairs (ends_of back (permit_at permits k))

-- the networks of a permit between different zones, both ways round
abbrev pub net_arcs : List ℕ → Permit → List (ℕ × ℕ)
net_arcs zones q = if slice_index zones q.src.net == slice_index zones q.dst.net then [] else (q.src.net, q.dst.net) ∷ (q.dst.net, q.src.net) ∷ []
