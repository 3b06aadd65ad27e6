-- What contracts see of views.
use Rattle.std.specs.Prelude.{◌≡◌, ℕ, ◌<◌, ◌≤◌, ◌⊎◌, Bool, List, length, filter, nat_lt, Some, IsTrue}
use Rattle.spoc_base.specs.Address.{Cidr}
use Rattle.policy_model.specs.Policy.{Policy, all_nets}
use Rattle.policy_model.specs.Tags.{Views}
use Rattle.policy_model.specs.Places.{prefix_in}
use Rattle.policy_model.specs.Blocks.{is_part_of}
use Rattle.policy_model.specs.Faults.{is_same_prefix}
use Rattle.policy_model.specs.FirstFault.{ViewPlace, AtZone, AtRouter, view_at, place_order, is_lower}

-- a policy, with the tags in force in each zone and inside each router
pub record Seen : Type 0 where
  pub policy : Policy
  pub views : Views

-- a policy, with the tags in force in one place
pub record Sight : Type 0 where
  pub policy : Policy
  pub tags : List ℕ

-- the networks whose prefixes in the view are inside a prefix, by number
abbrev pub nets_within : Policy → List ℕ → Cidr → List ℕ
nets_within p tags outer = filter (λ n. is_part_of (prefix_in p tags n) (Some outer)) (all_nets p)

-- the place has a view
abbrev pub has_view : Views → ViewPlace → Bool
has_view v (AtZone z) = nat_lt z (length v.zones)
has_view v (AtRouter r) = nat_lt r (length v.routers)

-- In a view, these are the least two networks with one prefix, by the first and then by the second.
pub record AreLeastSame (p : Policy) (tags : List ℕ) (n m : ℕ) : Type 0 where
  pub there : m < length p.nets
  pub same : IsTrue (is_same_prefix p tags n m)
  pub least : (k l : ℕ) → l < length p.nets → IsTrue (is_same_prefix p tags k l) → (n < k) ⊎ ((n ≡ k) × (m ≤ l))

-- In a view, no two networks have one prefix.
abbrev pub AreApartIn : Policy → List ℕ → Type 0
AreApartIn p tags = (n m : ℕ) → m < length p.nets → IsTrue (is_same_prefix p tags n m) → ⊥

-- In no view two networks have one prefix.
abbrev pub AreAllApart : Policy → Views → Type 0
AreAllApart p v = (at : ViewPlace) → IsTrue (has_view v at) → AreApartIn p (view_at v at)

-- The first view in which two networks have one prefix, and the least two of them. All zones come before all routers.
pub record AreFirstSame (p : Policy) (v : Views) (at : ViewPlace) (n m : ℕ) : Type 0 where
  pub viewed : IsTrue (has_view v at)
  pub least : AreLeastSame p (view_at v at) n m
  pub before : (other : ViewPlace) → IsTrue (has_view v other) → IsTrue (is_lower (place_order other) (place_order at)) → AreApartIn p (view_at v other)
