-- A search of the nodes to which one leads.
use Rattle.std.specs.Prelude.{◌≡◌, ℕ, ◌+◌, ◌||◌, Bool, true, List, ◌++◌, length, drop, count_by}
use Rattle.std.specs.List.{list_all}
use Rattle.policy_nesting.specs.Graph.{row_at, holds, leads, flag_at}

-- The nodes of a row have been marked, and those that weren't before stand at the end of the list of those that were found.
pub record Marks (row : List ℕ) (marked : List Bool) (found : List ℕ) (marked' : List Bool) (found' : List ℕ) : Type 0 where
  pub long : length marked' ≡ length marked
  pub all : list_all (flag_at marked') row ≡ true
  pub grows : (k : ℕ) → flag_at marked k ≡ true → flag_at marked' k ≡ true
  pub among : (k : ℕ) → flag_at marked' k ≡ true → (flag_at marked k || holds row k) ≡ true
  pub added : (k : ℕ) → flag_at marked' k ≡ true → (flag_at marked k || holds (drop (length found) found') k) ≡ true
  pub behind : found' ≡ found ++ drop (length found) found'
  pub count : length found' + count_by (λ b. b) marked ≡ length found + count_by (λ b. b) marked'
  pub listed : list_all (flag_at marked') (drop (length found) found') ≡ true

-- The nodes that a search from a node has marked are those that it has found, and to each of them the node leads.
pub record Finds (rows : List (List ℕ)) (a : ℕ) (marked : List Bool) (found : List ℕ) : Type 0 where
  pub long : length marked ≡ length rows
  pub count : length found ≡ count_by (λ b. b) marked
  pub listed : list_all (flag_at marked) found ≡ true
  pub reached : (k : ℕ) → flag_at marked k ≡ true → leads rows (length found) a k ≡ true

-- what the node names is marked, and so is what the marked ones name but for those that are still to be looked at
pub record Covers (rows : List (List ℕ)) (a : ℕ) (marked : List Bool) (left : List ℕ) : Type 0 where
  pub own : list_all (flag_at marked) (row_at rows a) ≡ true
  pub others : (k : ℕ) → flag_at marked k ≡ true → (holds left k || list_all (flag_at marked) (row_at rows k)) ≡ true
