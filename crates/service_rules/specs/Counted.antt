-- Counts that stop at the greatest number of their type.
use Rattle.std.specs.Prelude.{ℕ, ◌^◌, ◌-◌, min}

abbrev pub most : ℕ
most = 2 ^ 64 - 1

-- a count as far as it goes
abbrev pub counted : ℕ → ℕ
counted n = min n most
