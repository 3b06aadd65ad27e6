-- What the sets of a sound policy hold is there: networks, hosts and interfaces below their counts. So the ends of its permits are.
use Rattle.std.proofs.Common.{◌≡◌, ℕ, zero, suc, ◌<◌, ◌≤◌, inl, inr, Bool, true, false, not, ◌&&◌, List, [], ◌∷◌, ◌++◌, length, map, filter, Option, refl, sym, subst, ⊎_elim, arith}
use Rattle.std.specs.Prelude.{◌==◌, nat_lt, flat_map, slice_index_or, option_to_list}
use Rattle.std.specs.List.{list_any, list_all}
use Rattle.std.proofs.lemmas.Bool.{and_parts, ltb-true, eqb-true, false≢true, cases_lt}
use Rattle.std.proofs.lemmas.List.{get_or_past}
use Rattle.spoc_base.specs.Boxes.{TransportBox}
use Rattle.spoc_base.specs.Address.{Cidr, is_inside}
use Rattle.policy_model.specs.Lists.{has, once_each, numbers_below}
use Rattle.policy_model.specs.Policy.{Policy, Group, Rule, Service, ObjectExpr, NoObjects, OneNet, OneHost, OneIface, OfGroup, OfAggregate, OfArea, OfUser, NetsOf, HostsOf, ZonesOf, Joined, Common, Without, no_group, net_of, host_of, iface_of, group_of, aggregate_of, net_at, router_at, is_managed, all_nets, all_hosts}
use Rattle.policy_model.specs.Zones.{Site, zone_of, nets_in}
use Rattle.policy_model.specs.Objects.{Object, NetObject, HostObject, IfaceObject, same_object, has_object, area_zones, area_nets, net_of_object, hosts_of_object, is_asked, zone_nets, objects_by, group_objects, objects_of}
use Rattle.policy_model.specs.Permits.{End, Permit, net_end, one_address, ends_of, ends_in, rule_items, service_items, items_of, listed_permits, listed_denials, pieces_left_by, permits_of}
use Rattle.policy_model.specs.Faults.{is_managed_end, has_managed_end}
use Rattle.policy_model.specs.FirstFault.{no_service}
use Rattle.policy_model.proofs.AllWalks.{IsIn, from_map}
use Rattle.list_laws.proofs.Members.{in_either, from_filter, some_in, each_in}
use Rattle.list_laws.proofs.Tables.{from_flat_map}
use Rattle.piece_laws.proofs.Left.{kept, same_ends}
use Rattle.topology.specs.Sound.{IsSound, is_sound_expr, is_sound_rule, is_sound_service}
use Rattle.fault_laws.proofs.Orders.{from_numbers}

-- ---- words

from_once : {A : Type 0} (same : A → A → Bool) (x : A) (xs : List A) → IsIn x (once_each same xs) → IsIn x xs
from_once same x [] h = h
from_once same x (y ∷ ys) (inl e) = inl e
from_once same x (y ∷ ys) (inr h) = inr (from_once same x ys (from_filter (λ z. not (same y z)) x (once_each same ys) h).0)

in_place : {A : Type 0} (xs : List A) (k : ℕ) (d : A) → k < length xs → IsIn (slice_index_or xs k d) xs
in_place [] k d h = absurd (omega (arith, h))
in_place (x ∷ xs) zero d h = inl refl
in_place (x ∷ xs) (suc k) d h = inr (in_place xs k d (omega (arith, h)))

-- all in the list have it
abbrev AllIn : {A : Type 0} → (A → Type 0) → List A → Type 0
AllIn {A} P xs = (x : A) → IsIn x xs → P x

all_one : {A : Type 0} (P : A → Type 0) (x : A) → P x → AllIn P (x ∷ [])
all_one P x h y (inl e) = subst P (sym e) h
all_one P x h y (inr g) = absurd g

-- The interface is there, and the network and the host: the networks lie below a count.
abbrev IsThere : Policy → ℕ → Object → Type 0
IsThere p count (NetObject n) = n < count
IsThere p count (HostObject h) = h < length p.hosts
IsThere p count (IfaceObject i) = i < length p.ifaces

module _ (s : Site) (sound : IsSound s.policy) (count : ℕ) (nets : length s.policy.nets ≤ count) (zoned : length s.zones ≤ count) where
  abbrev p : Policy
  p = s.policy

  abbrev There : Object → Type 0
  There o = IsThere p count o

  net_there : (o : Object) → There o → net_of_object p o < count
  net_there (NetObject n) h = h
  net_there (HostObject k) h = let w = sound.numbered.hosts k h in omega (arith, w, nets)
  net_there (IfaceObject i) h = let w = (sound.numbered.placed i h).0 in omega (arith, w, nets)

  zone_nets_there : (only : Option Cidr) (ns : List ℕ) → AllIn There (zone_nets s only ns)
  zone_nets_there only ns o h =
      let w = from_map NetObject o (filter (is_asked p only) (flat_map (λ n. nets_in s (zone_of s n)) ns)) h in
      let a = from_filter (is_asked p only) w.0 (flat_map (λ n. nets_in s (zone_of s n)) ns) w.1 in
      let b = from_flat_map (λ n. nets_in s (zone_of s n)) w.0 ns a.0 in
      let c = from_filter (λ n. zone_of s n == zone_of s b.0) w.0 (numbers_below (length s.zones)) b.2 in
      let below = from_numbers (length s.zones) w.0 c.0 in
      subst There (sym w.2) (omega (arith, below, zoned))

  hosts_there : (o : Object) → There o → AllIn There (hosts_of_object p o)
  hosts_there (NetObject n) here o h =
      let w = from_map HostObject o (filter (λ k. (host_of p k).net == n) (all_hosts p)) h in
      let a = from_filter (λ k. (host_of p k).net == n) w.0 (all_hosts p) w.1 in
      subst There (sym w.2) (from_numbers (length p.hosts) w.0 a.0)
  hosts_there (HostObject k) here o h = all_one There (HostObject k) here o h
  hosts_there (IfaceObject i) here o h = absurd h

  module _ (areas : List (List ℕ)) where
    area_there : (k : ℕ) → AllIn There (map NetObject (area_nets s areas k))
    area_there k o h =
        let w = from_map NetObject o (area_nets s areas k) h in
        let a = from_filter (λ n. has (area_zones areas k) (zone_of s n)) w.0 (all_nets p) w.1 in
        let below = from_numbers (length p.nets) w.0 a.0 in
        subst There (sym w.2) (omega (arith, below, nets))

    module _ (groups : ℕ → List Object) (in_groups : (g : ℕ) → AllIn There (groups g)) (user : List Object) (in_user : AllIn There user) where
      by_there : (named bracket : Bool) (e : ObjectExpr) → is_sound_expr p named bracket e ≡ true → AllIn There (objects_by s areas groups user e)
      by_there named bracket NoObjects ok o h = absurd h
      by_there named bracket (OneNet n) ok o h = let below = ltb-true n (length p.nets) ok in all_one There (NetObject n) (omega (arith, below, nets)) o h
      by_there named bracket (OneHost k) ok o h = all_one There (HostObject k) (ltb-true k (length p.hosts) ok) o h
      by_there named bracket (OneIface i) ok o h =
          all_one There (IfaceObject i) (ltb-true i (length p.ifaces) (and_parts (nat_lt i (length p.ifaces)) _ ok).0) o h
      by_there named bracket (OfGroup g) ok o h = in_groups g o h
      by_there named bracket (OfAggregate k) ok o h =
          zone_nets_there (aggregate_of p k).only ((aggregate_of p k).link ∷ []) o (from_once same_object o (zone_nets s (aggregate_of p k).only ((aggregate_of p k).link ∷ [])) h)
      by_there named bracket (OfArea k) ok o h = area_there k o h
      by_there named bracket OfUser ok o h = in_user o h
      by_there named bracket (NetsOf e) ok o h =
          let w = from_map (λ x. NetObject (net_of_object p x)) o (objects_by s areas groups user e) (from_once same_object o (map (λ x. NetObject (net_of_object p x)) (objects_by s areas groups user e)) h) in
          subst There (sym w.2) (net_there w.0 (by_there named true e ok w.0 w.1))
      by_there named bracket (HostsOf e) ok o h =
          let w = from_flat_map (hosts_of_object p) o (objects_by s areas groups user e) (from_once same_object o (flat_map (hosts_of_object p) (objects_by s areas groups user e)) h) in
          hosts_there w.0 (by_there named true e ok w.0 w.1) o w.2
      by_there named bracket (ZonesOf only e) ok o h =
          zone_nets_there only (map (net_of_object p) (objects_by s areas groups user e)) o (from_once same_object o (zone_nets s only (map (net_of_object p) (objects_by s areas groups user e))) h)
      by_there named bracket (Joined e f) ok o h =
          let a = and_parts (is_sound_expr p named bracket e) (is_sound_expr p named bracket f) ok in
          ⊎_elim (λ g. by_there named bracket e a.0 o g) (λ g. by_there named bracket f a.1 o g)
          (in_either o (objects_by s areas groups user e) (objects_by s areas groups user f) (from_once same_object o (objects_by s areas groups user e ++ objects_by s areas groups user f) h))
      by_there named bracket (Common e f) ok o h =
          let a = and_parts (is_sound_expr p named bracket e) (is_sound_expr p named bracket f) ok in
          by_there named bracket e a.0 o (from_filter (has_object (objects_by s areas groups user f)) o (objects_by s areas groups user e) h).0
      by_there named bracket (Without e f) ok o h =
          let a = and_parts (is_sound_expr p named bracket e) (is_sound_expr p named bracket f) ok in
          by_there named bracket e a.0 o (from_filter (λ x. not (has_object (objects_by s areas groups user f) x)) o (objects_by s areas groups user e) h).0

    nothing_there : AllIn There []
    nothing_there o h = absurd h

    group_is_sound : (g : ℕ) → is_sound_expr p false false (group_of p g).objects ≡ true
    group_is_sound g =
        ⊎_elim (λ below. sound.sets.groups g below)
        (λ past. subst (λ (x : Group). is_sound_expr p false false x.objects ≡ true) (sym (get_or_past p.groups g no_group past)) refl)
        (cases_lt g (length p.groups))

    groups_there : (depth g : ℕ) → AllIn There (group_objects s areas depth g)
    groups_there zero g o h = absurd h
    groups_there (suc depth) g o h =
        by_there (group_objects s areas depth) (λ k. groups_there depth k) [] nothing_there false false (group_of p g).objects (group_is_sound g) o h

    objects_there : (user : List Object) → AllIn There user → (named bracket : Bool) (e : ObjectExpr) → is_sound_expr p named bracket e ≡ true → AllIn There (objects_of s areas user e)
    objects_there user in_user named bracket e ok o h =
        by_there (group_objects s areas (length p.groups)) (λ k. groups_there (length p.groups) k) user in_user named bracket e ok o h

    -- ---- services

    abbrev user_of : Service → List Object
    user_of service = objects_of s areas [] service.user

    user_there : (service : Service) → is_sound_service p service ≡ true → AllIn There (user_of service)
    user_there service ok o h =
        objects_there [] nothing_there false false service.user (and_parts (is_sound_expr p false false service.user) (list_all (is_sound_rule p) service.rules) ok).0 o h

    rules_sound : (service : Service) → is_sound_service p service ≡ true → (rule : Rule) → IsIn rule service.rules → is_sound_rule p rule ≡ true
    rules_sound service ok rule h =
        each_in (is_sound_rule p) service.rules (and_parts (is_sound_expr p false false service.user) (list_all (is_sound_rule p) service.rules) ok).1 rule h

    ends_sound : (rule : Rule) → is_sound_rule p rule ≡ true → (is_sound_expr p true false rule.src ≡ true) × (is_sound_expr p true false rule.dst ≡ true)
    ends_sound rule ok =
        let a = and_parts (is_sound_expr p true false rule.src && is_sound_expr p true false rule.dst) _ ok in
        and_parts (is_sound_expr p true false rule.src) (is_sound_expr p true false rule.dst) a.0

    -- a managed end is an interface that is there
    its_iface : (i : ℕ) (o : Object) → There o → is_managed_end p i o ≡ true → i < length p.ifaces
    its_iface i (NetObject n) here h = absurd (false≢true h)
    its_iface i (HostObject k) here h = absurd (false≢true h)
    its_iface i (IfaceObject j) here h =
        let e = eqb-true i j (and_parts (i == j) (is_managed p (router_at p i)) h).0 in
        omega (arith, e, here)

    pub managed_end_there : (service : Service) → is_sound_service p service ≡ true → (i : ℕ) → has_managed_end s areas service i ≡ true → i < length p.ifaces
    managed_end_there service ok i h =
        let user = user_of service in
        let w = some_in (λ rule. list_any (is_managed_end p i) (objects_of s areas user rule.src ++ objects_of s areas user rule.dst)) service.rules h in
        let rule : Rule = w.0 in
        let v = some_in (is_managed_end p i) (objects_of s areas user rule.src ++ objects_of s areas user rule.dst) w.2 in
        let ends = ends_sound rule (rules_sound service ok rule w.1) in
        its_iface i v.0
        (⊎_elim (λ g. objects_there user (user_there service ok) true false rule.src ends.0 v.0 g) (λ g. objects_there user (user_there service ok) true false rule.dst ends.1 v.0 g)
        (in_either v.0 (objects_of s areas user rule.src) (objects_of s areas user rule.dst) v.1)) v.2

    -- ---- permits

    net_ends_there : (ns : List ℕ) → AllIn (λ (n : ℕ). n < count) ns → AllIn (λ (e : End). e.net < count) (map (net_end p) ns)
    net_ends_there ns h e g = let w = from_map (net_end p) e ns g in subst (λ (x : End). x.net < count) (sym w.2) (h w.0 w.1)

    ends_there : (o : Object) → There o → AllIn (λ (e : End). e.net < count) (ends_of s o)
    ends_there (NetObject n) here e (inl same) = subst (λ (x : End). x.net < count) (sym same) here
    ends_there (NetObject n) here e (inr h) =
        net_ends_there (filter (λ m. not (m == n) && is_inside (net_of p m).own (net_of p n).own) (nets_in s (zone_of s n)))
        (λ m g. let a = from_filter (λ m. not (m == n) && is_inside (net_of p m).own (net_of p n).own) m (nets_in s (zone_of s n)) g in
        let b = from_filter (λ k. zone_of s k == zone_of s n) m (numbers_below (length s.zones)) a.0 in
        let below = from_numbers (length s.zones) m b.0 in omega (arith, below, zoned)) e h
    ends_there (HostObject k) here e (inl same) = subst (λ (x : End). x.net < count) (sym same) (net_there (HostObject k) here)
    ends_there (HostObject k) here e (inr h) = absurd h
    ends_there (IfaceObject i) here e h =
        let w = from_map (λ a. record { net = net_at p i; range = one_address a }) e (option_to_list (iface_of p i).addr) h in
        subst (λ (x : End). x.net < count) (sym w.2) (net_there (IfaceObject i) here)

    ends_in_there : (user : List Object) → AllIn There user → (e : ObjectExpr) → is_sound_expr p true false e ≡ true → AllIn (λ (x : End). x.net < count) (ends_in s areas user e)
    ends_in_there user in_user e ok x h =
        let w = from_flat_map (ends_of s) x (objects_of s areas user e) h in
        ends_there w.0 (objects_there user in_user true false e ok w.0 w.1) x w.2

    abbrev Between : Permit → Type 0
    Between q = (q.src.net < count) × (q.dst.net < count)

    boxes_there : (src dst : End) → src.net < count → dst.net < count → (boxes : List TransportBox) → AllIn Between (map (λ box. record { src = src; dst = dst; box = box }) boxes)
    boxes_there src dst here there boxes q h =
        let w = from_map (λ box. record { src = src; dst = dst; box = box }) q boxes h in
        subst Between (sym {b = record { src = src; dst = dst; box = w.0 }} w.2) (here, there)

    rule_there : (user : List Object) → AllIn There user → (rule : Rule) → is_sound_rule p rule ≡ true → AllIn Between (rule_items s areas user rule)
    rule_there user in_user rule ok q h =
        let ends = ends_sound rule ok in
        let a = from_flat_map (λ src. flat_map (λ dst. map (λ box. record { src = src; dst = dst; box = box }) rule.boxes) (ends_in s areas user rule.dst)) q (ends_in s areas user rule.src) h in
        let b = from_flat_map (λ dst. map (λ box. record { src = a.0; dst = dst; box = box }) rule.boxes) q (ends_in s areas user rule.dst) a.2 in
        boxes_there a.0 b.0 (ends_in_there user in_user rule.src ends.0 a.0 a.1) (ends_in_there user in_user rule.dst ends.1 b.0 b.1) rule.boxes q b.2

    item_there : (test : Rule → Bool) (q : Permit) → IsIn q (items_of s areas test) → Between q
    item_there test q h =
        let a = from_flat_map (service_items s areas test) q p.services h in
        let service : Service = a.0 in
        let ok = each_in (is_sound_service p) p.services sound.sets.services service a.1 in
        let b = from_flat_map (rule_items s areas (user_of service)) q (filter test service.rules) a.2 in
        rule_there (user_of service) (user_there service ok) b.0 (rules_sound service ok b.0 (from_filter test b.0 service.rules b.1).0) q b.2

    pub permit_there : (q : Permit) → IsIn q (permits_of s areas) → Between q
    permit_there q h =
        let a = from_flat_map (λ x. pieces_left_by (listed_denials s areas) (x ∷ [])) q (listed_permits s areas) h in
        let own : Between a.0 = item_there (λ rule. not rule.deny) a.0 a.1 in
        kept Between (listed_denials s areas)
        (λ d j x y hx i. let e = same_ends d x y i in (subst (λ (n : ℕ). n < count) (sym e.0) hx.0, subst (λ (n : ℕ). n < count) (sym e.1) hx.1))
        (a.0 ∷ []) (λ x i. ⊎_elim (λ e. subst Between (sym e) own) (λ none. absurd none) i) q a.2

-- a service of a sound policy, by its place
pub service_is_sound : (p : Policy) → IsSound p → (k : ℕ) → k < length p.services → is_sound_service p (slice_index_or p.services k no_service) ≡ true
service_is_sound p sound k h = each_in (is_sound_service p) p.services sound.sets.services (slice_index_or p.services k no_service) (in_place p.services k no_service h)
