-- What the text of a device's file reads as.
use Rattle.std.specs.Prelude.{◌≡◌, ◌≢◌, ℕ, suc, ◌⊎◌, true, false, bytes_eq, List, [], ◌∷◌, ◌++◌, length, map, flat_map, if◌then◌else◌}
use Rattle.std.specs.List.{AllByRecursion, list_any, list_all}
use Rattle.spoc_base.specs.declared.dialect.Dialect.{Dialect}
use Rattle.policy_model.specs.Filters.{Line}
use Rattle.policy_model.specs.Routes.{Route}
use Rattle.policy_model.specs.Passing.{Config}
use Rattle.device_reading.specs.Facts.{PortAt, line_of, Fact, Sends, HasEntry, Binds, line_text}
use Rattle.device_reading.specs.Grammar.{AreFacts, IsFact, binds_port}

-- the text of these lines
abbrev pub text_of : Dialect → List Fact → List ℕ
text_of dialect facts = flat_map (line_text dialect) facts

abbrev pub entry_in : List ℕ → Fact → List Line
entry_in name (HasEntry list entry) = if bytes_eq list name then line_of entry ∷ [] else []
entry_in name _ = []

-- the entries of a list, in order
abbrev pub entries_of : List Fact → List ℕ → List Line
entries_of facts name = flat_map (entry_in name) facts

abbrev pub bound_entries : List Fact → List ℕ → Fact → List Line
bound_entries facts hardware (Binds h list) = if bytes_eq h hardware then entries_of facts list else []
bound_entries facts hardware _ = []

-- the entries of the list that a port has
abbrev pub entries_at : List Fact → PortAt → List Line
entries_at facts port = flat_map (bound_entries facts port.hardware) facts

abbrev pub route_in : Fact → List Route
route_in (Sends port net gateway) = record { net = net; gateway = gateway; out = port.number } ∷ []
route_in _ = []

-- per port the entries of its list, and the routes, both in the order of the lines
abbrev pub config_of : List PortAt → List Fact → Config
config_of ports facts = record { lists = map (entries_at facts) ports; routes = flat_map route_in facts }

-- each port has a list
abbrev pub AreBound : List PortAt → List Fact → Type 0
AreBound ports facts = AllByRecursion (λ (p : PortAt). list_any (binds_port p.hardware) facts ≡ true) ports

-- The text reads as the config: each of its lines says what may stand there, each port has a list, and the config is what the lines say.
pub record Reads (dialect : Dialect) (ports : List PortAt) (text : List ℕ) (config : Config) : Type 0 where
  pub facts : List Fact
  pub spelled : text ≡ text_of dialect facts
  pub each : AreFacts dialect ports [] facts
  pub bound : AreBound ports facts
  pub is_config : config ≡ config_of ports facts

-- No line may stand here: what follows is spelled as no line that may, its line feed included.
abbrev pub IsOutside : Dialect → List PortAt → List Fact → List ℕ → Type 0
IsOutside dialect ports above rest = (fact : Fact) (more : List ℕ) → IsFact dialect ports above fact → rest ≢ line_text dialect fact ++ more

-- The text reads as nothing: this is its first line that may not stand there, from 1, or, where all may, the number of lines and one where a port has no list.
pub record IsBadAt (dialect : Dialect) (ports : List PortAt) (text : List ℕ) (line : ℕ) : Type 0 where
  pub above : List Fact
  pub rest : List ℕ
  pub spelled : text ≡ text_of dialect above ++ rest
  pub each : AreFacts dialect ports [] above
  pub at : line ≡ suc (length above)
  pub bad : (rest ≢ []) × IsOutside dialect ports above rest ⊎ ((rest ≡ []) × (list_all (λ (p : PortAt). list_any (binds_port p.hardware) above) ports ≡ false))
