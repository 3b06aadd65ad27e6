-- How the counts of a real folder go on.
use Rattle.std.specs.Prelude.{ℕ, Result, Ok, Err}
use Rattle.spoc_io.specs.Memory.{next_count}
use Rattle.spoc_io.specs.declared.io.IoFail.{IoFail}
use Rattle.spoc_io.specs.declared.io.IoFail.TheVariants.{Failed, TooLarge, Memory}

-- a count of failures, after a call of `list` or `read` with this result
abbrev pub after_failure : {T : Type 0} → ℕ → Result T IoFail → ℕ
after_failure n (Ok x) = n
after_failure n (Err Failed) = next_count n
after_failure n (Err TooLarge) = n
after_failure n (Err Memory) = n

-- a count of failures, after a call with this result, each of whose errors is a failure
abbrev pub after_error : {T E : Type 0} → ℕ → Result T E → ℕ
after_error n (Ok x) = n
after_error n (Err e) = next_count n
