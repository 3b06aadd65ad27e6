-- What the parts of a tree mean.
use Rattle.std.specs.Prelude.{◌≡◌, ℕ, List, length, map, option_map, nat_eq}
use Rattle.std.specs.HashMap.{HashMap, get}
use Rattle.std.specs.declared.hash.FoldHasher.{FoldHasher}
use Rattle.std.specs.declared.hash.BuildHasherDefault.{BuildHasherDefault}
use Rattle.spoc_base.specs.Address.{Cidr}
use Rattle.spoc_base.specs.declared.ids.NetId.{NetId}
use Rattle.subnet_tree.specs.Entries.{Entry, place_in, parent_in, nets_inside}
use Rattle.subnet_tree.specs.Knots.{Knot, knot_at, last_holding, AreKnots, entry_of_knot}
use Rattle.subnet_tree.specs.Shown.{net_of}

-- The entries in order answer as the items do, and the map has the network above each.
pub record IsTree (items : List Entry) (ks : List Knot) (parents : HashMap ℕ NetId (BuildHasherDefault FoldHasher)) : Type 0 where
  pub knots : AreKnots ks
  pub placed : (a : ℕ) → place_in items a ≡ option_map (λ i. (knot_at ks i).net) (last_holding ks a (length ks))
  pub above : (n : ℕ) → parent_in items n ≡ option_map net_of (get nat_eq parents n)
  pub insides : (p : Cidr) → nets_inside items p ≡ nets_inside (map entry_of_knot ks) p
