-- The block of addresses with which the prefixes of a range begin.
use Rattle.std.specs.Prelude.{◌≡◌, ℕ, ◌+◌, ◌%◌, ◌^◌, ◌<◌, ◌≤◌}

-- From the first address on, this many last bits are free: an aligned block that ends at the end or before, and no larger one does.
pub record IsLargestBlock (first end bits : ℕ) : Type 0 where
  pub short : bits ≤ 32
  pub aligned : first % 2 ^ bits ≡ 0
  pub fits : first + 2 ^ bits ≤ end
  pub largest : bits < 32 → first % 2 ^ (bits + 1) ≡ 0 → first + 2 ^ (bits + 1) ≤ end → ⊥
