-- Permits with an end that is hidden in a zone of an allowed walk.
use Rattle.std.specs.Prelude.{◌≡◌, ℕ, ◌<◌, ◌||◌, ◌==◌, Bool, true, false, if◌then◌else◌, List, length, slice_index, Option, None, Some, is_none}
use Rattle.std.specs.List.{All, Contains}
use Rattle.policy_model.specs.Policy.{Policy}
use Rattle.policy_model.specs.Paths.{Crossing}
use Rattle.policy_model.specs.Zones.{Site, zone_at, zone_count}
use Rattle.policy_model.specs.Tags.{Views}
use Rattle.policy_model.specs.Places.{prefix_in}
use Rattle.policy_model.specs.Permits.{Permit}
use Rattle.policy_model.specs.Blocks.{permit_at}
use Rattle.policy_model.specs.Faults.{is_hidden_end}
use Rattle.zone_graph.specs.declared.marks.Crossing.{Crossing as Stepped}

-- the network of the permit's source, or of its destination
abbrev pub end_net : Permit → Bool → ℕ
end_net q is_dst = if is_dst then q.dst.net else q.src.net

-- The crossing leads from the zone or to it.
abbrev pub touches_zone : Site → ℕ → Crossing → Bool
touches_zone s z c = (zone_at s c.enter == z) || (zone_at s c.leave == z)

-- The crossings' interfaces are there.
abbrev pub AreThere : Policy → List Stepped → Type 0
AreThere p cs = All (λ c. (c.enter.0 < length p.ifaces) × (c.leave.0 < length p.ifaces)) cs

-- The zones of the permit are one, or among those that have a table.
abbrev pub HasTable : List ℕ → List (ℕ × ℕ) → Permit → Type 0
HasTable zones names q = (slice_index zones q.src.net == slice_index zones q.dst.net) ≡ false → Contains names (slice_index zones q.src.net, slice_index zones q.dst.net)

abbrev pub HaveTables : List ℕ → List (ℕ × ℕ) → List Permit → Type 0
HaveTables zones names permits = (k : ℕ) → k < length permits → HasTable zones names (permit_at permits k)

-- which end of the permit is hidden in the view, the source first; none where neither is
abbrev pub IsHiddenIn : Policy → List ℕ → Permit → Option Bool → Type 0
IsHiddenIn p view q None = (is_dst : Bool) → is_none (prefix_in p view (end_net q is_dst)) ≡ false
IsHiddenIn p view q (Some false) = is_none (prefix_in p view q.src.net) ≡ true
IsHiddenIn p view q (Some true) = (is_none (prefix_in p view q.src.net) ≡ false) × (is_none (prefix_in p view q.dst.net) ≡ true)

-- the end of the permit that is hidden in a zone of an allowed walk, the source first
pub record IsHiddenAt (s : Site) (v : Views) (q : Permit) (z : ℕ) (is_dst : Bool) : Type 0 where
  pub hidden : is_hidden_end s v q (end_net q is_dst) z ≡ true
  pub source : is_dst ≡ true → is_hidden_end s v q q.src.net z ≡ false

abbrev pub NoneHiddenAt : Site → Views → Permit → ℕ → Type 0
NoneHiddenAt s v q z = (n : ℕ) → is_hidden_end s v q n z ≡ false

-- and in the first such zone
pub record IsFirstZone (s : Site) (v : Views) (q : Permit) (z : ℕ) (is_dst : Bool) : Type 0 where
  pub there : z < zone_count s
  pub here : IsHiddenAt s v q z is_dst
  pub before : (y : ℕ) → y < z → NoneHiddenAt s v q y

abbrev pub IsSeenThroughout : Site → Views → Permit → Type 0
IsSeenThroughout s v q = (z : ℕ) → z < zone_count s → NoneHiddenAt s v q z

-- and of the first such permit
pub record IsFirstHidden (s : Site) (v : Views) (permits : List Permit) (k z : ℕ) (is_dst : Bool) : Type 0 where
  pub below : k < length permits
  pub here : IsFirstZone s v (permit_at permits k) z is_dst
  pub before : (i : ℕ) → i < k → IsSeenThroughout s v (permit_at permits i)

abbrev pub AreSeenThroughout : Site → Views → List Permit → Type 0
AreSeenThroughout s v permits = (k : ℕ) → k < length permits → IsSeenThroughout s v (permit_at permits k)
