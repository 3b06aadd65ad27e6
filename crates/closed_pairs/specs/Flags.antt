-- Flags of the pairs at an interface, one for each pair.
use Rattle.std.specs.Prelude.{◌≡◌, ℕ, ◌<◌, ◌&&◌, ◌||◌, ◌==◌, Bool, false, List, [], length, slice_index_or}
use Rattle.std.specs.List.{All, AllPairs, list_any}
use Rattle.policy_model.specs.Policy.{Policy}
use Rattle.policy_model.specs.Permits.{Permit}
use Rattle.policy_model.specs.Filters.{Line}
use Rattle.policy_model.specs.Blocks.{NetPair}
use Rattle.closed_pairs.specs.Reaching.{PairNumbers, AreBelow, AreThere, IsBefore, lines_between, reaches_pair}

-- one of these lines reaches into the pair
abbrev pub is_reached : Policy → List ℕ → List Permit → List Line → PairNumbers → Bool
is_reached p view permits lines inner = list_any (reaches_pair p view permits inner) lines

-- a line of the outer pair reaches into the inner one
abbrev pub enters : Policy → List ℕ → List Permit → PairNumbers → PairNumbers → Bool
enters p view permits outer inner = is_reached p view permits (lines_between p view permits outer) inner

abbrev pub same_nets : NetPair → NetPair → Bool
same_nets a b = (a.src == b.src) && (a.dst == b.dst)

-- a pair by the numbers of its networks
abbrev pub key_of : PairNumbers → ℕ × ℕ
key_of e = (e.pair.src, e.pair.dst)

-- by the first number, and then by the second
abbrev pub IsKeyBefore : ℕ × ℕ → ℕ × ℕ → Type 0
IsKeyBefore a b = IsBefore (record { src = a.0; dst = a.1 }) (record { src = b.0; dst = b.1 })

abbrev pub no_pair : PairNumbers
no_pair = record { pair = record { src = 0; dst = 0 }; forward = []; mirrored = [] }

abbrev pub numbers_at : List PairNumbers → ℕ → PairNumbers
numbers_at pairs k = slice_index_or pairs k no_pair

abbrev pub flag_at : List Bool → ℕ → Bool
flag_at flags k = slice_index_or flags k false

-- The pairs have numbers of permits and networks of the policy, and come in order, each once.
pub record AreGiven (p : Policy) (count : ℕ) (pairs : List PairNumbers) : Type 0 where
  pub below : All (AreBelow count) pairs
  pub there : All (λ e. AreThere p e.pair) pairs
  pub order : AllPairs (λ a b. IsBefore a.pair b.pair) pairs

-- The flags of the pairs that pass the test are set, and the others stay.
pub record AreMarked (test : PairNumbers → Bool) (pairs : List PairNumbers) (old new : List Bool) : Type 0 where
  pub each : length new ≡ length old
  pub are : (k : ℕ) → k < length pairs → flag_at new k ≡ (flag_at old k || test (numbers_at pairs k))

-- The flags say which of the pairs pass the test.
pub record AreFlags (test : PairNumbers → Bool) (pairs : List PairNumbers) (flags : List Bool) : Type 0 where
  pub each : length flags ≡ length pairs
  pub are : (k : ℕ) → k < length pairs → flag_at flags k ≡ test (numbers_at pairs k)
