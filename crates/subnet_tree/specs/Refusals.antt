-- What an error of building says of the items.
use Rattle.std.specs.Prelude.{List}
use Rattle.subnet_tree.specs.Entries.{Entry, IsLeastSame}
use Rattle.subnet_tree.specs.declared.fail.TreeFail.{TreeFail}
use Rattle.subnet_tree.specs.declared.fail.TreeFail.TheVariants.{Same, Memory}

-- The two networks are the least ones with one prefix. Want of memory says nothing.
abbrev pub Refuses : List Entry → TreeFail → Type 0
Refuses items (Same n m) = IsLeastSame items n.0 m.0
Refuses items Memory = Unit {0}
