-- The first number that passes a test.
use Rattle.std.specs.Prelude.{◌≡◌, ℕ, ◌<◌, ◌≤◌, Bool, true, false}

-- None of the numbers from the first one up to the bound passes.
pub record NonePasses (test : ℕ → Bool) (from bound : ℕ) : Type 0 where
  pub fails : (k : ℕ) → from ≤ k → k < bound → test k ≡ false

-- This one passes, and none before it.
pub record IsFirstPlace (test : ℕ → Bool) (from bound place : ℕ) : Type 0 where
  pub low : from ≤ place
  pub below : place < bound
  pub passes : test place ≡ true
  pub before : NonePasses test from place
