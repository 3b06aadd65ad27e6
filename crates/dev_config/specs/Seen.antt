-- What clauses see of configs: the plain lines, routes and headers of the definitions; and what a look-up gives.
use Rattle.std.specs.Prelude.{ℕ, nat_lt, List, ◌++◌, map, filter, option_map, option_to_list, Option, Some, None, if◌then◌else◌}
use Rattle.spoc_base.specs.Address.{prefix_holds}
use Rattle.spoc_base.specs.Shown.{cidr_of, box_of}
use Rattle.policy_model.specs.Places.{longest_by}
use Rattle.policy_model.specs.Packets as packets
use Rattle.policy_model.specs.Filters as filters
use Rattle.policy_model.specs.Routes as routes
use Rattle.policy_model.specs.Passing as passing
use Rattle.dev_config.specs.declared.setup.Line.{Line}
use Rattle.dev_config.specs.declared.setup.List.{List as CodeList}
use Rattle.dev_config.specs.declared.setup.Route.{Route}
use Rattle.dev_config.specs.declared.setup.Config.{Config}
use Rattle.dev_config.specs.declared.setup.Port.{Port}
use Rattle.dev_config.specs.declared.setup.Header.{Header}
use Rattle.dev_config.specs.declared.setup.Hop.{Hop}
use Rattle.dev_config.specs.declared.table.Found.{Found}

abbrev pub line_of : Line → filters.Line
line_of l = record { permit = l.permit; src = map cidr_of l.src.now; dst = map cidr_of l.dst.now; box = box_of l.t }

abbrev pub lines_of : CodeList → List filters.Line
lines_of list = map line_of list.lines.now

abbrev pub header_of : Header → packets.Header
header_of h = record { src = h.src.0; dst = h.dst.0; transport = h.t }

abbrev pub route_of : Route → routes.Route
route_of r = record { net = cidr_of r.net; gateway = r.gateway.0; out = r.out.0 }

abbrev pub config_of : Config → passing.Config
config_of c = record { lists = map lines_of c.lists.now; routes = map route_of c.routes.now }

abbrev pub hop_of : Hop → routes.Hop
hop_of h = record { out = h.out.0; gateway = option_map (λ a. a.0) h.gateway }

abbrev pub found_entry : Found → routes.Entry
found_entry f = record { prefix = cidr_of f.prefix; hop = hop_of f.hop }

-- a connected network as an entry: directly out by its port
abbrev pub port_entry : Port → routes.Entry
port_entry p = record { prefix = cidr_of p.connected; hop = record { out = p.iface.0; gateway = None } }

abbrev pub route_entry : Route → routes.Entry
route_entry r = routes.entry_of (route_of r)

-- the ports, and then the routes
abbrev pub entries_of : List Port → Config → List routes.Entry
entries_of ports c = map port_entry ports ++ map route_entry c.routes.now

-- the longer one, and the first of equally long ones
abbrev pub better : Option routes.Entry → routes.Entry → routes.Entry
better None e = e
better (Some b) e = if nat_lt b.prefix.len e.prefix.len then e else b

-- the hop of the longest entry that holds the address, the first of equally long ones
abbrev pub looked_up : List routes.Entry → ℕ → Option routes.Hop
looked_up entries a = option_map (λ e. e.hop) (longest_by (λ e. e.prefix.len) (filter (λ e. prefix_holds e.prefix a) entries))

-- the same, where an entry was found before these
abbrev pub looked_up_from : Option routes.Entry → List routes.Entry → ℕ → Option routes.Hop
looked_up_from best entries a = option_map (λ e. e.hop) (longest_by (λ e. e.prefix.len) (option_to_list best ++ filter (λ e. prefix_holds e.prefix a) entries))
