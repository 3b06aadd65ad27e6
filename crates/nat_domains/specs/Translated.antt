-- Networks that are translated twice, or inside.
use Rattle.std.specs.Prelude.{◌≡◌, ℕ, ◌<◌, ◌≤◌, Bool, true, ◌&&◌, nat_lt, List, length, map, slice_index}
use Rattle.spoc_base.specs.declared.ids.TagId.{TagId}
use Rattle.policy_model.specs.Lists.{has}
use Rattle.policy_model.specs.Policy.{Policy}
use Rattle.policy_model.specs.Zones.{Site, zone_count}
use Rattle.policy_model.specs.Tags.{Views, zone_view}
use Rattle.policy_model.specs.Faults.{has_tag, is_translated_inside}

-- a view by its numbers
abbrev pub numbers_of : List TagId → List ℕ
numbers_of row = map (λ tag. tag.0) row

-- whether the tag at this place of a view is the network's
abbrev pub is_tag_at : Policy → ℕ → List ℕ → ℕ → Bool
is_tag_at p n row k = has_tag p n (slice_index row k)

-- two tags of a network that are in force in a zone with this view
abbrev pub is_pair : Policy → List ℕ → ℕ → ℕ → ℕ → Bool
is_pair p row n tag other = nat_lt tag other && has_tag p n tag && has_tag p n other && has row tag && has row other

-- the network hasn't two such tags
abbrev pub HasNoTwo : Policy → List ℕ → ℕ → Type 0
HasNoTwo p row n = (tag other : ℕ) → is_pair p row n tag other ≡ true → ⊥

-- no network has two such tags
abbrev pub HasNoPair : Policy → List ℕ → Type 0
HasNoPair p row = (n tag other : ℕ) → is_pair p row n tag other ≡ true → ⊥

-- The least two tags of the network that are in force.
pub record IsLeastPair (p : Policy) (row : List ℕ) (n tag other : ℕ) : Type 0 where
  pub here : is_pair p row n tag other ≡ true
  pub least : (t o : ℕ) → is_pair p row n t o ≡ true → (tag ≤ t) × (t ≡ tag → other ≤ o)

-- The least two tags of the first network that has two such tags.
pub record IsFirstPair (p : Policy) (row : List ℕ) (n tag other : ℕ) : Type 0 where
  pub there : n < length p.nets
  pub pair : IsLeastPair p row n tag other
  pub before : (m t o : ℕ) → m < n → is_pair p row m t o ≡ true → ⊥

-- no network is translated twice
abbrev pub HasNoTwice : Site → Views → Type 0
HasNoTwice s v = (z : ℕ) → z < zone_count s → HasNoPair s.policy (zone_view v z)

-- The least tag of the network that is in force in its own zone.
pub record IsLeastInside (s : Site) (v : Views) (n tag : ℕ) : Type 0 where
  pub here : is_translated_inside s v n tag ≡ true
  pub least : (t : ℕ) → is_translated_inside s v n t ≡ true → tag ≤ t

-- no network below a number is translated inside
abbrev pub HasNoInside : Site → Views → ℕ → Type 0
HasNoInside s v count = (n t : ℕ) → n < count → is_translated_inside s v n t ≡ true → ⊥
