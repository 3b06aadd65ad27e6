-- The first fault of walks, but for too many lines; and how many lines there are.
use Rattle.std.specs.Prelude.{ℕ, Option}
use Rattle.std.specs.Option.{option_or}
use Rattle.policy_model.specs.FirstFault.{FaultCase, line_count}
use Rattle.policy_model.specs.Headline.{Meaning, permits_in}
use Rattle.fault_laws.specs.Cases.{path_case, hidden_case}

-- a permit that no walk carries, or else one with a hidden end
abbrev pub path_or_end : Meaning → Option FaultCase
path_or_end m = option_or (path_case m) (hidden_case m)

-- how many lines the lists have before they are optimised
abbrev pub line_total : Meaning → ℕ
line_total m = line_count m.site m.views (permits_in m)
