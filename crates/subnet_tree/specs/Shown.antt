-- What clauses see of items and nodes.
use Rattle.std.specs.Prelude.{ℕ}
use Rattle.spoc_base.specs.declared.address.Prefix.{Prefix}
use Rattle.spoc_base.specs.declared.ids.NetId.{NetId}
use Rattle.spoc_base.specs.Shown.{cidr_of}
use Rattle.subnet_tree.specs.Entries.{Entry}
use Rattle.subnet_tree.specs.Knots.{Knot}
use Rattle.subnet_tree.specs.declared.nodes.Node.{Node}

abbrev pub entry_of : NetId × Prefix → Entry
entry_of item = record { net = item.0.0; prefix = cidr_of item.1 }

abbrev pub knot_of : Node → Knot
knot_of node = record { net = node.id.0; prefix = cidr_of node.prefix; above = node.above }

abbrev pub pair_of : NetId × NetId → ℕ × ℕ
pair_of p = (p.0.0, p.1.0)

abbrev pub net_of : NetId → ℕ
net_of n = n.0
