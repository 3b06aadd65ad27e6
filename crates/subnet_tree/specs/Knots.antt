-- How a tree is kept: its entries in the order of their addresses, each with the place of the entry next above it.
use Rattle.std.specs.Prelude.{◌≡◌, ℕ, zero, suc, ◌<◌, ◌≤◌, ◌==◌, Bool, if◌then◌else◌, List, map, filter, take, length, slice_index_or, Option, Some, None}
use Rattle.spoc_base.specs.Address.{Cidr, prefix_holds, is_inside, any_address}
use Rattle.subnet_tree.specs.Entries.{Entry}

-- a network with its prefix, and the place of the next enclosing one
pub record Knot : Type 0 where
  pub net : ℕ
  pub prefix : Cidr
  pub above : Option ℕ

abbrev pub no_knot : Knot
no_knot = record { net = 0; prefix = any_address; above = None }

abbrev pub knot_at : List Knot → ℕ → Knot
knot_at ks i = slice_index_or ks i no_knot

-- the last number below n that passes the test
abbrev pub last_below : (ℕ → Bool) → ℕ → Option ℕ
last_below test zero = None
last_below test (suc n) = if test n then Some n else last_below test n

-- the place, below n, of the last entry that holds the address
unfoldable pub last_holding : List Knot → ℕ → ℕ → Option ℕ
last_holding ks a n = last_below (λ k. prefix_holds (knot_at ks k).prefix a) n

-- The addresses ascend, and the place above an entry is that of the last one before it that holds its address.
pub record AreKnots (ks : List Knot) : Type 0 where
  pub ascending : (i j : ℕ) → i < j → j < length ks → (knot_at ks i).prefix.net ≤ (knot_at ks j).prefix.net
  pub linked : (i : ℕ) → i < length ks → (knot_at ks i).above ≡ last_holding ks (knot_at ks i).prefix.net i

abbrev pub entry_of_knot : Knot → Entry
entry_of_knot k = record { net = k.net; prefix = k.prefix }

-- the networks of the first n entries that are inside the prefix
unfoldable pub picked : Cidr → List Knot → ℕ → List ℕ
picked p ks n = map (λ k. k.net) (filter (λ k. is_inside k.prefix p) (take n ks))

-- the network at the place above, if there is one
abbrev pub above_at : List Knot → Option ℕ → Option ℕ → Option ℕ
above_at ks (Some j) other = Some (knot_at ks j).net
above_at ks None other = other

-- the network above that with the number q, among the first n entries
abbrev pub assigned : List Knot → ℕ → ℕ → Option ℕ
assigned ks q zero = None
assigned ks q (suc n) = if (knot_at ks n).net == q then above_at ks (knot_at ks n).above (assigned ks q n) else assigned ks q n
