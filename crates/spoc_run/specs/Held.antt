-- What the target holds after a policy was accepted.
use Rattle.std.specs.Prelude.{◌≡◌, ℕ, List, Ok, Some, true, is_some, IsTrue}
use Rattle.spoc_io.specs.Files.{Files, bytes_at}
use Rattle.policy_model.specs.Policy.{Policy, router_of, is_managed}
use Rattle.policy_model.specs.Passing.{Config, config_of}
use Rattle.policy_outcome.specs.Outcome.{Written}
use Rattle.policy_outcome.specs.Exact.{DecidesExactly}
use Rattle.printed_laws.specs.ReadFiles.{dialect_at, ports_of, ReadsOnlyAs}
use Rattle.source_laws.specs.Sources.{policy_in}
use Rattle.compile_core.specs.Exact.{AreExact}
use Rattle.spoc_run.specs.Outcome.{compiled_of}

-- Under the router's name lies a file that its device reads as the config, and as no other.
pub record HoldsConfig (p : Policy) (held : Files) (r : ℕ) (config : Config) : Type 0 where
  pub text : List ℕ
  pub there : bytes_at held (router_of p r).name ≡ Some text
  pub read : ReadsOnlyAs (dialect_at p r) (ports_of p r) text config

-- The target holds the device files of the policy, and these do exactly what the policy says: the file that lies under a managed router's name reads as
-- exactly one configuration, and with these configurations the policy's devices pass an unambiguous packet on an allowed walk exactly if it is permitted
-- or a reply, and its tables send it to the walk's next hop.
pub record HoldsExact (sources held : Files) : Type 0 where
  pub written : Written
  pub compiled : compiled_of sources ≡ Ok written
  pub exact : AreExact sources written
  pub files : (name : List ℕ) → is_some (bytes_at written.files name) ≡ true → bytes_at held name ≡ bytes_at written.files name
  pub configs : List Config
  pub read : (r : ℕ) → IsTrue (is_managed (policy_in sources) r) → HoldsConfig (policy_in sources) held r (config_of (policy_in sources) configs r)
  pub decides : DecidesExactly (policy_in sources) configs
