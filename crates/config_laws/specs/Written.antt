-- The configs that are written for a policy.
use Rattle.std.specs.Prelude.{ℕ, List, map, if◌then◌else◌}
use Rattle.policy_model.specs.Policy.{managed_routers}
use Rattle.policy_model.specs.Tags.{ifaces_of}
use Rattle.policy_model.specs.Filters.{Line}
use Rattle.policy_model.specs.Blocks.{is_grouped_at, list_at}
use Rattle.policy_model.specs.Optimised.{optimised_lines}
use Rattle.policy_model.specs.Grouped.{grouped_lines}
use Rattle.policy_model.specs.Routes.{route_table}
use Rattle.policy_model.specs.Passing.{Config}
use Rattle.policy_model.specs.Headline.{Meaning, permits_in}

-- the list at an interface, optimised, and grouped where the router's dialect is
abbrev pub written_lines : Meaning → ℕ → List Line
written_lines m i =
    let lines = optimised_lines (list_at m.site m.views (permits_in m) i) in
    if is_grouped_at m.site.policy i then grouped_lines lines else lines

-- the lists of a router's interfaces, in order, and its routes
abbrev pub written_config : Meaning → ℕ → Config
written_config m r = record { lists = map (written_lines m) (ifaces_of m.site.policy r); routes = route_table m.site m.views (permits_in m) r }

-- one config for each managed router, in order
abbrev pub written_configs : Meaning → List Config
written_configs m = map (written_config m) (managed_routers m.site.policy)
