-- What is claimed of each policy that is compiled, by its sources.
use Rattle.std.specs.Prelude.{◌≡◌, ℕ, List, map}
use Rattle.policy_model.specs.Policy.{managed_routers}
use Rattle.policy_model.specs.Filters.{Line}
use Rattle.policy_outcome.specs.Outcome.{Written}
use Rattle.policy_outcome.specs.Files.{config_for, files_for}
use Rattle.policy_outcome.specs.Exact.{DecidesExactly}
use Rattle.printed_laws.specs.ReadFiles.{AreReadAs}
use Rattle.source_laws.specs.Sources.{policy_in}

-- The files are the texts of configurations, one for each managed router in order, that decide exactly. The configurations have the lists of the routers'
-- interfaces. Each file, as a device reads it, reads as its router's configuration and as no other.
pub record AreExact (sources : List (List ℕ × List ℕ)) (written : Written) : Type 0 where
  pub lists : List (List Line)
  pub files : written.files ≡ files_for (policy_in sources) lists
  pub read : AreReadAs (policy_in sources) (managed_routers (policy_in sources)) (map (config_for (policy_in sources) lists) (managed_routers (policy_in sources))) written.files
  pub decides : DecidesExactly (policy_in sources) (map (config_for (policy_in sources) lists) (managed_routers (policy_in sources)))

abbrev pub file_names : Written → List (List ℕ)
file_names w = map (λ file. file.0) w.files
