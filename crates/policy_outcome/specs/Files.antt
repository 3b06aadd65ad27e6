-- The files of a policy's managed routers, by the access lists of its interfaces.
use Rattle.std.specs.Prelude.{ℕ, List, [], map, filter, sum_by, length, slice_index_or, Option, Some, None, if◌then◌else◌}
use Rattle.spoc_base.specs.declared.dialect.Dialect.{Dialect}
use Rattle.spoc_base.specs.declared.dialect.Dialect.TheVariants.{Ios}
use Rattle.policy_model.specs.Policy.{Policy, Device, router_of, iface_of, is_managed, managed_routers}
use Rattle.policy_model.specs.Tags.{ifaces_of}
use Rattle.policy_model.specs.Filters.{Line}
use Rattle.policy_model.specs.Blocks.{is_grouped_at}
use Rattle.policy_model.specs.Optimised.{optimised_lines}
use Rattle.policy_model.specs.Grouped.{grouped_lines}
use Rattle.policy_model.specs.Passing.{Config}
use Rattle.acl_print.specs.Seen.{PortName}
use Rattle.acl_print.specs.DeviceText.{device_text}

-- The list of an interface as it is written: without needless lines, and grouped where the router's dialect is.
abbrev pub as_written : Policy → ℕ → List Line → List Line
as_written p i lines = if is_grouped_at p i then grouped_lines (optimised_lines lines) else optimised_lines lines

-- the lists of a router's interfaces as they are written, in order; routes aren't written yet
abbrev pub config_for : Policy → List (List Line) → ℕ → Config
config_for p lists r = record { lists = map (λ i. as_written p i (slice_index_or lists i [])) (ifaces_of p r); routes = [] }

abbrev pub dialect_of : Option Device → Dialect
dialect_of None = Ios
dialect_of (Some device) = device.dialect

abbrev pub port_of : Policy → ℕ → PortName
port_of p i = record { number = i; hardware = (iface_of p i).hardware }

-- the file of a router with a config: its name, and the text
abbrev pub file_for : Policy → ℕ → Config → List ℕ × List ℕ
file_for p r config = ((router_of p r).name, device_text (dialect_of (router_of p r).device) (router_of p r).name (map (port_of p) (ifaces_of p r)) config)

-- those of some routers that are managed
abbrev pub managed_in : Policy → List ℕ → List ℕ
managed_in p routers = filter (is_managed p) routers

-- the files of some routers
abbrev pub files_of : Policy → List (List Line) → List ℕ → List (List ℕ × List ℕ)
files_of p lists routers = map (λ r. file_for p r (config_for p lists r)) routers

abbrev pub files_for : Policy → List (List Line) → List (List ℕ × List ℕ)
files_for p lists = files_of p lists (managed_routers p)

-- how many lines the lists of a config have
abbrev pub lines_in : Config → ℕ
lines_in config = sum_by length config.lists

-- how many lines the files have
abbrev pub line_total : Policy → List (List Line) → ℕ
line_total p lists = sum_by (λ r. lines_in (config_for p lists r)) (managed_routers p)
