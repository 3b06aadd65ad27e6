-- What clauses see of a view.
use Rattle.topology.specs.View.{policy_of}
use Rattle.nat_view.specs.Seen.{Sight}
use Rattle.nat_view.specs.Shown.{tags_of}
use Rattle.nat_view.specs.declared.view.View.{View}

-- its policy, with the tags that are in force
abbrev pub sight_of : View → Sight
sight_of v = record { policy = policy_of v.topo; tags = tags_of v.table.now }
