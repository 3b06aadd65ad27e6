-- What clauses see of tables, and of an error of building.
use Rattle.std.specs.Prelude.{ℕ, List, map, Option, option_map}
use Rattle.spoc_base.specs.Address.{Cidr}
use Rattle.spoc_base.specs.Shown.{cidr_of}
use Rattle.spoc_base.specs.declared.address.Prefix.{Prefix}
use Rattle.spoc_base.specs.declared.ids.TagId.{TagId}
use Rattle.policy_model.specs.Policy.{Policy}
use Rattle.subnet_tree.specs.declared.fail.TreeFail.{TreeFail}
use Rattle.subnet_tree.specs.declared.fail.TreeFail.TheVariants.{Same, Memory}
use Rattle.nat_view.specs.Seen.{AreLeastSame}
use Rattle.nat_view.specs.Tables.{IsTable}
use Rattle.nat_view.specs.declared.table.Table.{Table}

abbrev pub numbers_of : List TagId → List ℕ
numbers_of tags = map (λ tag. tag.0) tags

-- a translation as the definitions have it
abbrev pub nat_seen : TagId × Option Prefix → ℕ × Option Cidr
nat_seen nat = (nat.0.0, option_map cidr_of nat.1)

abbrev pub tags_of : Table → List ℕ
tags_of t = numbers_of t.tags.items

-- the prefixes of a table
abbrev pub cidrs_of : List (Option Prefix) → List (Option Cidr)
cidrs_of seen = map (option_map cidr_of) seen

-- The table is that of its tags.
abbrev pub IsTableOf : Policy → Table → Type 0
IsTableOf p t = IsTable p (tags_of t) (cidrs_of t.seen.items) t.tree

-- The two networks are the least ones with one prefix. Want of memory says nothing.
abbrev pub RefusesTable : Policy → List ℕ → TreeFail → Type 0
RefusesTable p tags (Same n m) = AreLeastSame p tags n.0 m.0
RefusesTable p tags Memory = Unit {0}
