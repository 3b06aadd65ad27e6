-- Which fault of the services is told.
use Rattle.std.specs.Prelude.{◌≡◌, ℕ, List}
use Rattle.spoc_base.specs.declared.place.Source.{Source}
use Rattle.spoc_base.specs.declared.fault.Fault.{Fault}
use Rattle.policy_model.specs.Headline.{Meaning}
use Rattle.policy_model.specs.Zones.{Site}
use Rattle.topology.specs.First.{HasNone, TellsFirst}

-- no meaning with these zones and areas has an interface of a managed router at an end of a rule, or too many permits
abbrev pub AreClear : Site → List (List ℕ) → Type 0
AreClear s areas = (m : Meaning) → m.site ≡ s → m.areas ≡ areas → HasNone m 7 8

-- the first fault of these two is told
abbrev pub TellsRule : List Source → Site → List (List ℕ) → Fault → Type 0
TellsRule sources s areas fault = (m : Meaning) → m.site ≡ s → m.areas ≡ areas → TellsFirst sources m 7 8 fault
