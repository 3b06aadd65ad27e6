-- Look-ups over ports and routes are those of the policy's definitions.
use Rattle.std.proofs.Common.{◌≡◌, ℕ, List, ◌++◌, map, ap, sym, ◌∙◌}
use Rattle.std.proofs.lemmas.Simd.{map-map}
use Rattle.policy_model.specs.Policy.{Policy}
use Rattle.policy_model.specs.Routes as routes
use Rattle.dev_config.specs.declared.setup.Config.{Config}
use Rattle.dev_config.specs.declared.setup.Port.{Port}
use Rattle.dev_config.specs.Seen.{route_of, port_entry, route_entry, entries_of, looked_up}

pub agree : (p : Policy) (r a : ℕ) (ports : List Port) (config : Config) → map port_entry ports ≡ routes.connected_entries p r →
    looked_up (entries_of ports config) a ≡ routes.lookup p r (map route_of config.routes.now) a
agree p r a ports config same =
    ap (λ (xs : List routes.Entry). looked_up (xs ++ map route_entry config.routes.now) a) same
    ∙ ap (λ (xs : List routes.Entry). looked_up (routes.connected_entries p r ++ xs) a) (sym (map-map routes.entry_of route_of config.routes.now))
