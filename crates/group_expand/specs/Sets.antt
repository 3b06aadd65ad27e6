-- Sets of objects as they are gathered.
use Rattle.std.specs.Prelude.{◌≡◌, ℕ, ◌<◌, ◌==◌, nat_lt, not, true, Bool, if◌then◌else◌, List, [], ◌∷◌, ◌++◌, length, map, filter, Option, Vec, slice_index_or}
use Rattle.std.specs.List.{list_all}
use Rattle.spoc_base.specs.Address.{Cidr}
use Rattle.spoc_base.specs.declared.ids.HostId.{HostId}
use Rattle.policy_model.specs.Lists.{has, numbers_below}
use Rattle.policy_model.specs.Policy.{Policy, host_of, all_hosts}
use Rattle.policy_model.specs.Zones.{Site, nets_in}
use Rattle.policy_model.specs.Objects as plain
use Rattle.policy_model.specs.Objects.{has_object, is_asked, objects_by, group_objects}
use Rattle.group_expand.specs.declared.object.Object.{Object}
use Rattle.group_expand.specs.declared.object.Object.TheVariants as object

abbrev pub object_seen : Object → plain.Object
object_seen (object.Net n) = plain.NetObject n.0
object_seen (object.Host h) = plain.HostObject h.0
object_seen (object.Iface i) = plain.IfaceObject i.0

-- rows of objects
abbrev pub rows_seen : {A : Type 0} → List (Vec Object A) → List (List plain.Object)
rows_seen rows = map (λ row. map object_seen row.items) rows

-- rows of hosts, by number
abbrev pub host_rows : {A : Type 0} → List (Vec HostId A) → List (List ℕ)
host_rows rows = map (λ row. map (λ h. h.0) row.items) rows

-- one object more, unless it is there
abbrev pub with_object : List plain.Object → plain.Object → List plain.Object
with_object xs o = if has_object xs o then xs else xs ++ o ∷ []

-- more objects, one by one
abbrev pub with_objects : List plain.Object → List plain.Object → List plain.Object
with_objects xs [] = xs
with_objects xs (o ∷ os) = with_objects (with_object xs o) os

-- The object is one of the policy.
abbrev pub is_there : Policy → plain.Object → Bool
is_there p (plain.NetObject n) = nat_lt n (length p.nets)
is_there p (plain.HostObject h) = nat_lt h (length p.hosts)
is_there p (plain.IfaceObject i) = nat_lt i (length p.ifaces)

abbrev pub are_there : Policy → List plain.Object → Bool
are_there p objects = list_all (is_there p) objects

-- the hosts of a network, by number
abbrev pub hosts_at : Policy → ℕ → List ℕ
hosts_at p n = filter (λ h. (host_of p h).net == n) (all_hosts p)

-- the hosts below a number of a network
abbrev pub hosts_below : Policy → ℕ → ℕ → List ℕ
hosts_below p count n = filter (λ h. (host_of p h).net == n) (numbers_below count)

-- each network's hosts
pub record AreHosts (p : Policy) (rows : List (List ℕ)) : Type 0 where
  pub each : length rows ≡ length p.nets
  pub its : (n : ℕ) → n < length p.nets → slice_index_or rows n [] ≡ hosts_at p n

-- the networks of a zone that are asked for
abbrev pub zone_objects : Site → Option Cidr → ℕ → List plain.Object
zone_objects s only z = map plain.NetObject (filter (is_asked s.policy only) (nets_in s z))

-- all asked networks of each of these zones are in the set
abbrev pub AreIn : Site → Option Cidr → List ℕ → List plain.Object → Type 0
AreIn s only zones found = (z : ℕ) → has zones z ≡ true → list_all (has_object found) (zone_objects s only z) ≡ true

-- what a set keeps of another, or without it
abbrev pub narrowed_by : Bool → List plain.Object → List plain.Object → List plain.Object
narrowed_by without xs ys = if without then filter (λ o. not (has_object ys o)) xs else filter (has_object ys) xs

-- the hosts of each network, and the set of each group
pub record Tables : Type 0 where
  pub hosts : List (List ℕ)
  pub groups : List (List plain.Object)

-- the set of a group, by the table
abbrev pub group_set : List (List plain.Object) → ℕ → List plain.Object
group_set groups g = slice_index_or groups g []

-- The tables are those of the policy.
pub record AreTables (s : Site) (areas : List (List ℕ)) (tables : Tables) : Type 0 where
  pub hosts : AreHosts s.policy tables.hosts
  pub each : length tables.groups ≡ length s.policy.groups
  pub its : (g : ℕ) → g < length s.policy.groups → group_set tables.groups g ≡ group_objects s areas (length s.policy.groups) g
