-- When a list is refused.
use Rattle.std.specs.Prelude.{◌≡◌, ℕ, ◌<◌}
use Rattle.spoc_base.specs.declared.fault.Fault.TheVariants.{LimitLines}
use Rattle.spoc_base.specs.declared.fault.Refusal.{Refusal}
use Rattle.topology.specs.First.{IsRefusalOf}

-- So many lines are told to be more than there may be, unless memory ran out.
abbrev pub RefusesLines : ℕ → ℕ → Refusal → Type 0
RefusesLines most count refusal = IsRefusalOf (λ fault. (fault ≡ LimitLines) × (most < count)) refusal
