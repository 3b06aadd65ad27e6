-- Runs of lines that differ in their sources alone.
use Rattle.std.specs.Prelude.{List, ◌∷◌, flat_map}
use Rattle.spoc_base.specs.Address.{same_prefix}
use Rattle.policy_model.specs.Lists.{once_each}
use Rattle.policy_model.specs.Filters.{Line}

-- its ends exchanged
abbrev pub mirrored : Line → Line
mirrored l = record { permit = l.permit; src = l.dst; dst = l.src; box = l.box }

-- the first line of a run, and where there are more, with the sources of all of them in place of its own
abbrev pub run_as_one : Line → List Line → Line
run_as_one first (l ∷ m ∷ lines) = record first { src = once_each same_prefix (flat_map (λ k. k.src) (l ∷ m ∷ lines)) }
run_as_one first _ = first
