-- What the files of a policy's managed routers read as.
use Rattle.std.specs.Prelude.{◌≡◌, ℕ, List, [], ◌∷◌, map}
use Rattle.spoc_base.specs.declared.dialect.Dialect.{Dialect}
use Rattle.policy_model.specs.Policy.{Policy, router_of, iface_of, net_of, net_at}
use Rattle.policy_model.specs.Tags.{ifaces_of}
use Rattle.policy_model.specs.Passing.{Config}
use Rattle.policy_outcome.specs.Files.{dialect_of}
use Rattle.device_reading.specs.Facts.{PortAt}
use Rattle.device_reading.specs.Reading.{Reads}

-- an interface of a device, which is connected to its network's own prefix
abbrev pub port_at : Policy → ℕ → PortAt
port_at p i = record { number = i; hardware = (iface_of p i).hardware; connected = (net_of p (net_at p i)).own }

-- a router's interfaces, in order
abbrev pub ports_of : Policy → ℕ → List PortAt
ports_of p r = map (port_at p) (ifaces_of p r)

abbrev pub dialect_at : Policy → ℕ → Dialect
dialect_at p r = dialect_of (router_of p r).device

-- The text reads as the config, and as no other.
pub record ReadsOnlyAs (dialect : Dialect) (ports : List PortAt) (text : List ℕ) (config : Config) : Type 0 where
  pub reads : Reads dialect ports text config
  pub only : (other : Config) → Reads dialect ports text other → other ≡ config

-- The file, a name and a text, has the router's name, and its text reads as the router's config and as no other.
pub record IsReadAs (p : Policy) (r : ℕ) (config : Config) (file : List ℕ × List ℕ) : Type 0 where
  pub name : file.0 ≡ (router_of p r).name
  pub text : ReadsOnlyAs (dialect_at p r) (ports_of p r) file.1 config

-- So it is with each of these routers, its config and its file, which stand in one order and are as many.
abbrev pub AreReadAs : Policy → List ℕ → List Config → List (List ℕ × List ℕ) → Type 0
AreReadAs p [] [] [] = Unit {0}
AreReadAs p (r ∷ routers) (config ∷ configs) (file ∷ files) = IsReadAs p r config file × AreReadAs p routers configs files
AreReadAs p _ _ _ = ⊥
