-- Networks with their prefixes, and what is asked of a list of them.
use Rattle.std.specs.Prelude.{◌≡◌, ◌≢◌, ℕ, zero, suc, ◌<◌, ◌≤◌, ◌⊎◌, Bool, ◌&&◌, ◌||◌, ◌==◌, nat_lt, if◌then◌else◌, slice_index_or, List, map, filter, find, Option, Some, None, option_map}
use Rattle.std.specs.List.{AllPairs, Contains}
use Rattle.std.specs.Option.{option_and_then}
use Rattle.spoc_base.specs.Address.{Cidr, prefix_holds, is_inside, any_address}
use Rattle.policy_model.specs.Lists.{sorted_by}
use Rattle.policy_model.specs.Places.{longest_by}

-- a network by its number, and its prefix
pub record Entry : Type 0 where
  pub net : ℕ
  pub prefix : Cidr

-- no number stands there twice
abbrev pub HaveDistinctNumbers : List Entry → Type 0
HaveDistinctNumbers items = AllPairs (λ e f. e.net ≢ f.net) items

-- no two networks have one prefix
abbrev pub HaveDistinctPrefixes : List Entry → Type 0
HaveDistinctPrefixes items = (e f : Entry) → Contains items e → Contains items f → e.prefix ≡ f.prefix → e.net ≡ f.net

-- the network of the longest prefix among the items
abbrev pub longest : List Entry → Option ℕ
longest items = option_map (λ e. e.net) (longest_by (λ e. e.prefix.len) items)

-- the network with the longest prefix that holds the address
abbrev pub place_in : List Entry → ℕ → Option ℕ
place_in items a = longest (filter (λ e. prefix_holds e.prefix a) items)

-- the second prefix is part of the first, which is shorter
abbrev pub encloses : Cidr → Cidr → Bool
encloses outer p = is_inside p outer && nat_lt outer.len p.len

-- the network with the longest prefix that encloses that of the network
abbrev pub parent_in : List Entry → ℕ → Option ℕ
parent_in items n = option_and_then (λ own. longest (filter (λ e. encloses e.prefix own.prefix) items)) (find (λ e. e.net == n) items)

-- the networks whose prefixes are inside the prefix, by number
abbrev pub nets_inside : List Entry → Cidr → List ℕ
nets_inside items p = sorted_by nat_lt (map (λ e. e.net) (filter (λ e. is_inside e.prefix p) items))

-- the first stands before the second where they are ordered by address, then by length, and then by number
pub record Precedes (e f : Entry) : Type 0 where
  pub nets : e.prefix.net ≤ f.prefix.net
  pub lengths : e.prefix.net ≡ f.prefix.net → e.prefix.len ≤ f.prefix.len
  pub numbers : e.prefix ≡ f.prefix → e.net ≤ f.net

abbrev pub AreInOrder : List Entry → Type 0
AreInOrder es = AllPairs Precedes es

-- the two prefixes are equal
abbrev pub are_equal : Cidr → Cidr → Bool
are_equal p q = (p.net == q.net) && (p.len == q.len)

-- the first pair of numbers stands before the second, by its first number and then by its second
abbrev pub is_before : ℕ × ℕ → ℕ × ℕ → Bool
is_before p q = nat_lt p.0 q.0 || ((p.0 == q.0) && nat_lt p.1 q.1)

-- the pair, or the least one so far if the pair doesn't stand before it
abbrev pub lesser : Option (ℕ × ℕ) → ℕ × ℕ → ℕ × ℕ
lesser None p = p
lesser (Some q) p = if is_before p q then p else q

-- the least pair so far, or that of the two entries if they have one prefix and it is less
abbrev pub lesser_of : Option (ℕ × ℕ) → Entry → Entry → Option (ℕ × ℕ)
lesser_of least e f = if are_equal e.prefix f.prefix then Some (lesser least (e.net, f.net)) else least

-- what is read past the end
abbrev pub no_entry : Entry
no_entry = record { net = 0; prefix = any_address }

abbrev pub entry_at : List Entry → ℕ → Entry
entry_at es i = slice_index_or es i no_entry

-- what neighbours up to the place n give
abbrev pub least_of_neighbours : List Entry → ℕ → Option (ℕ × ℕ)
least_of_neighbours es zero = None
least_of_neighbours es (suc n) = lesser_of (least_of_neighbours es n) (entry_at es n) (entry_at es (suc n))

-- the least numbers of two items with one prefix
pub record IsLeastSame (items : List Entry) (n m : ℕ) : Type 0 where
  pub first : Entry
  pub second : Entry
  pub first_there : Contains items first
  pub second_there : Contains items second
  pub first_number : first.net ≡ n
  pub second_number : second.net ≡ m
  pub ascending : n < m
  pub same : first.prefix ≡ second.prefix
  pub least : (e f : Entry) → Contains items e → Contains items f → e.net < f.net → e.prefix ≡ f.prefix → (n < e.net) ⊎ ((n ≡ e.net) × (m ≤ f.net))
