-- Things grouped by zone.
use Rattle.std.specs.Prelude.{◌≡◌, ℕ, ◌<◌, ◌==◌, ◌&&◌, Vec, List, [], length, map, filter, slice_index, slice_index_or}
use Rattle.policy_model.specs.Lists.{numbers_below}
use Rattle.policy_model.specs.Policy.{Policy, all_ifaces, is_managed, router_at, net_at}
use Rattle.policy_model.specs.Zones.{AreZones}
use Rattle.zone_graph.specs.Labels.{AreNumbers}

-- the networks of a zone, by number
abbrev pub nets_with : List ℕ → ℕ → List ℕ
nets_with zones z = filter (λ n. slice_index zones n == z) (numbers_below (length zones))

-- the interfaces of managed routers in a zone, by number
abbrev pub doors_with : Policy → List ℕ → ℕ → List ℕ
doors_with p zones z = filter (λ i. is_managed p (router_at p i) && (slice_index zones (net_at p i) == z)) (all_ifaces p)

-- rows as lists
abbrev pub row_items : {T A : Type 0} → List (Vec T A) → List (List T)
row_items rows = map (λ row. row.items) rows

-- each row has the numbers of its group
pub record HasGroups {T : Type 0} (number : T → ℕ) (rows : List (List T)) (group : ℕ → List ℕ) : Type 0 where
  pub each : (z : ℕ) → z < length rows → map number (slice_index_or rows z []) ≡ group z

-- Each row is empty.
pub record AreEmpty {T : Type 0} (rows : List (List T)) (count : ℕ) : Type 0 where
  pub length_is : length rows ≡ count
  pub empty : (z : ℕ) → slice_index_or rows z [] ≡ []

-- the interfaces of managed routers below a number in a zone
abbrev pub doors_below : Policy → List ℕ → ℕ → ℕ → List ℕ
doors_below p zones count z = filter (λ i. is_managed p (router_at p i) && (slice_index zones (net_at p i) == z)) (numbers_below count)

-- the networks below a number in a zone
abbrev pub nets_below : List ℕ → ℕ → ℕ → List ℕ
nets_below zones count z = filter (λ n. slice_index zones n == z) (numbers_below count)

-- each is the number of a row
abbrev pub AreRowsOf : List ℕ → ℕ → Type 0
AreRowsOf zones count = (n : ℕ) → n < length zones → slice_index zones n < count

-- What a graph of zones shows: the zone of each network, and the networks and doors of each zone.
pub record Graph : Type 0 where
  pub zones : List ℕ
  pub nets : List (List ℕ)
  pub doors : List (List ℕ)

-- The graph is that of a policy: its table is that of the zones, and its rows are the zones' networks and managed interfaces, by number.
pub record IsGraphOf (p : Policy) (g : Graph) : Type 0 where
  pub table : AreZones p g.zones
  pub numbers : AreNumbers g.zones (length g.nets)
  pub both : length g.doors ≡ length g.nets
  pub nets_are : (z : ℕ) → z < length g.nets → slice_index_or g.nets z [] ≡ nets_with g.zones z
  pub doors_are : (z : ℕ) → z < length g.doors → slice_index_or g.doors z [] ≡ doors_with p g.zones z
