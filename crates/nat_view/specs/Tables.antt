-- What is kept for the views: a table of prefixes and a tree for each different list of tags.
use Rattle.std.specs.Prelude.{◌≡◌, ℕ, ◌<◌, Bool, List, [], ◌∷◌, length, map, filter, slice_index_or, Option, Some, None, is_some, unwrap_or, IsTrue}
use Rattle.spoc_base.specs.Address.{Cidr, any_address}
use Rattle.policy_model.specs.Lists.{numbers_below}
use Rattle.policy_model.specs.Policy.{Policy, net_of}
use Rattle.policy_model.specs.Places.{prefix_in}
use Rattle.topology.specs.Sound.{keeps_length}
use Rattle.subnet_tree.specs.Entries.{Entry, HaveDistinctPrefixes}

-- the prefix of a network, with none where it is hidden
abbrev pub prefix_at : List (Option Cidr) → ℕ → Option Cidr
prefix_at seen n = slice_index_or seen n None

abbrev pub has_prefix : List (Option Cidr) → ℕ → Bool
has_prefix seen n = is_some (prefix_at seen n)

-- a network with its prefix
abbrev pub item_at : List (Option Cidr) → ℕ → Entry
item_at seen n = record { net = n; prefix = unwrap_or (prefix_at seen n) any_address }

-- the item of a network, if it has a prefix
abbrev pub entry_if : ℕ → Option Cidr → List Entry
entry_if n None = []
entry_if n (Some q) = record { net = n; prefix = q } ∷ []

-- the first networks that have a prefix, as the items of a tree
abbrev pub entries_below : List (Option Cidr) → ℕ → List Entry
entries_below seen count = map (item_at seen) (filter (has_prefix seen) (numbers_below count))

abbrev pub entries_of : List (Option Cidr) → List Entry
entries_of seen = entries_below seen (length seen)

-- The prefixes are those of the networks where the tags are in force, and have the lengths of the own ones.
pub record ArePrefixes (p : Policy) (tags : List ℕ) (seen : List (Option Cidr)) : Type 0 where
  pub each : length seen ≡ length p.nets
  pub are : (n : ℕ) → n < length p.nets → prefix_in p tags n ≡ prefix_at seen n
  pub lengths : (n : ℕ) → n < length p.nets → IsTrue (keeps_length (net_of p n).own (prefix_at seen n))

-- The prefixes differ, and the tree has those that are there.
pub record IsTable (p : Policy) (tags : List ℕ) (seen : List (Option Cidr)) (items : List Entry) : Type 0 where
  pub prefixes : ArePrefixes p tags seen
  pub items_are : items ≡ entries_of seen
  pub apart : HaveDistinctPrefixes items

-- The prefixes of the first networks, while the table is made.
pub record ArePrefixesBelow (p : Policy) (tags : List ℕ) (seen : List (Option Cidr)) (count : ℕ) : Type 0 where
  pub each : length seen ≡ count
  pub are : (n : ℕ) → n < count → prefix_in p tags n ≡ prefix_at seen n
  pub lengths : (n : ℕ) → n < count → IsTrue (keeps_length (net_of p n).own (prefix_at seen n))
