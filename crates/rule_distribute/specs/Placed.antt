-- The blocks at an interface, from the rows of permits of pairs of networks.
use Rattle.std.specs.Prelude.{◌≡◌, ℕ, ◌+◌, ◌-◌, ◌<◌, ◌==◌, Bool, true, false, not, ◌&&◌, ◌||◌, if◌then◌else◌, List, [], filter, flat_map, length, map, slice_index_or}
use Rattle.std.specs.List.{All}
use Rattle.policy_model.specs.Lists.{numbers_below, is_nothing}
use Rattle.policy_model.specs.Policy.{Policy, net_of}
use Rattle.policy_model.specs.Zones.{Site}
use Rattle.policy_model.specs.Tags.{Views}
use Rattle.policy_model.specs.Permits.{Permit}
use Rattle.policy_model.specs.Blocks.{Block, is_seen}
use Rattle.closed_pairs.specs.Reaching.{PairNumbers, is_closed_among}
use Rattle.rule_distribute.specs.Concerned.{concerned_pairs}
use Rattle.rule_distribute.specs.Rows.{pair_at, row_below}

-- pairs of networks, with the permits from the first to the second, and those of the way back that have replies
pub record Pairs : Type 0 where
  pub pairs : List (ℕ × ℕ)
  pub forward : List (List ℕ)
  pub replied : List (List ℕ)

abbrev pub row_at : {A : Type 0} → List (List A) → ℕ → List A
row_at rows w = slice_index_or rows w []

-- each pair has its rows, and its networks are there
pub record HaveRows (p : Policy) (j : Pairs) : Type 0 where
  pub forward : length j.forward ≡ length j.pairs
  pub replied : length j.replied ≡ length j.pairs
  pub src : (w : ℕ) → w < length j.pairs → (pair_at j.pairs w).0 < length p.nets
  pub dst : (w : ℕ) → w < length j.pairs → (pair_at j.pairs w).1 < length p.nets

-- The rows have numbers below this one.
pub record AreLess (count : ℕ) (j : Pairs) : Type 0 where
  pub forward : (w : ℕ) → w < length j.pairs → All (λ k. k < count) (row_at j.forward w)
  pub replied : (w : ℕ) → w < length j.pairs → All (λ k. k < count) (row_at j.replied w)

-- The pairs are those on which what is placed depends, in order, and their rows have the permits' numbers.
pub record ArePairsOf (s : Site) (v : Views) (permits : List Permit) (j : Pairs) : Type 0 where
  pub pairs : j.pairs ≡ concerned_pairs s v permits
  pub each_forward : length j.forward ≡ length j.pairs
  pub each_replied : length j.replied ≡ length j.pairs
  pub forward : (w : ℕ) → w < length j.pairs → row_at j.forward w ≡ row_below s.zones j.pairs false permits (length permits) w
  pub replied : (w : ℕ) → w < length j.pairs → row_at j.replied w ≡ row_below s.zones j.pairs true permits (length permits) w

-- the permits of the w-th pair, with those of the way back where they are told
abbrev pub numbers_at : Pairs → Bool → ℕ → PairNumbers
numbers_at j told w =
    record {
      pair = record { src = (pair_at j.pairs w).0; dst = (pair_at j.pairs w).1 };
      forward = row_at j.forward w;
      mirrored = if told then row_at j.replied w else [];
    }

-- neither network of the w-th pair is hidden
abbrev pub is_seen_at : Policy → List ℕ → Pairs → ℕ → Bool
is_seen_at p view j w = is_seen p view (record { src = (pair_at j.pairs w).0; dst = (pair_at j.pairs w).1 })

-- whether the w-th pair has to be closed, as a line of some pair of the row reaches into it
abbrev pub is_shut : Policy → List ℕ → List Permit → Pairs → Bool → List ℕ → ℕ → Bool
is_shut p view permits j told row w = is_closed_among p view permits (map (numbers_at j told) row) (numbers_at j told w)

-- the places of a row, each with whether its pair has to be closed
abbrev pub told_closed : Policy → List ℕ → List Permit → Pairs → Bool → List ℕ → List (ℕ × Bool)
told_closed p view permits j told row = map (λ w. (w, is_shut p view permits j told row w)) row

-- the block of a pair by its place, with the permits of the way back where they are told, closed where that is said
abbrev pub block_at : Pairs → Bool → ℕ × Bool → Block
block_at j told e =
    record {
      pair = record { src = (pair_at j.pairs e.0).0; dst = (pair_at j.pairs e.0).1 };
      forward = row_at j.forward e.0;
      mirrored = if told then row_at j.replied e.0 else [];
      closed = e.1;
    }

-- some permit stands in the block, or it is closed
abbrev pub is_filled : Block → Bool
is_filled b = not (is_nothing b.forward) || not (is_nothing b.mirrored) || b.closed

-- how far the pair's networks lie from the deepest
abbrev pub shallow : Policy → ℕ × ℕ → ℕ
shallow p e = 64 - ((net_of p e.0).own.len + (net_of p e.1).own.len)

abbrev pub is_in_bucket : Policy → Pairs → Bool → ℕ → ℕ × Bool → Bool
is_in_bucket p j told k e = is_filled (block_at j told e) && (shallow p (pair_at j.pairs e.0) == k)

-- the pairs whose blocks are filled, at one depth
abbrev pub bucket : Policy → Pairs → Bool → List (ℕ × Bool) → ℕ → List (ℕ × Bool)
bucket p j told places k = filter (is_in_bucket p j told k) places

-- the blocks of pairs by their places, the deepest first
abbrev pub placed : Policy → Pairs → Bool → List (ℕ × Bool) → List Block
placed p j told places = flat_map (λ k. map (block_at j told) (bucket p j told places k)) (numbers_below 65)
