-- What clauses see of the views of all places.
use Rattle.std.specs.Prelude.{ℕ, List}
use Rattle.topology.specs.View.{policy_of}
use Rattle.nat_view.specs.Seen.{Seen}
use Rattle.nat_view.specs.Places.{rows_of, views_of}
use Rattle.nat_view.specs.declared.views.Views.{Views}

-- their policy, with the tags in force in each zone and inside each router
abbrev pub seen_of : Views → Seen
seen_of v = record { policy = policy_of v.topo; views = views_of v.zones (rows_of v.tables.items v.places.items) }

-- the number of the table of each place, all zones coming before all routers
abbrev pub table_numbers : Views → List ℕ
table_numbers v = v.places.items
