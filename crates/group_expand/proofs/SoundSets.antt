-- What a sound expression names is there.
use Rattle.std.proofs.Common.{◌≡◌, ℕ, zero, suc, ◌+◌, Bool, true, false, cond, not, List, [], ◌∷◌, ◌++◌, length, map, flat_map, refl, sym, subst, arith}
use Rattle.std.specs.Prelude.{filter, nat_lt, ◌==◌, Option, is_some, ◌||◌}
use Rattle.std.specs.List.{list_all, range_with_len}
use Rattle.std.proofs.lemmas.Bool.{and_parts, and_from, ltb-true, lt-ltb}
use Rattle.spoc_base.specs.Address.{Cidr}
use Rattle.policy_model.specs.Lists.{has, numbers_below, once_each}
use Rattle.policy_model.specs.Policy.{Policy, ObjectExpr, NoObjects, OneNet, OneHost, OneIface, OfGroup, OfAggregate, OfArea, OfUser, NetsOf, HostsOf, ZonesOf, Joined, Common, Without, host_of, net_at, router_at, iface_of, is_managed, aggregate_of, all_hosts}
use Rattle.policy_model.specs.Zones.{Site, zone_of, nets_in}
use Rattle.policy_model.specs.Objects.{Object, NetObject, HostObject, IfaceObject, same_object, has_object, object_set, net_of_object, hosts_of_object, is_asked, zone_nets, area_nets, area_zones, objects_by}
use Rattle.topology.specs.Sound.{IsSound, is_sound_expr}
use Rattle.topology.specs.View.{policy_of}
use Rattle.group_expand.specs.declared.object.Object as code
use Rattle.group_expand.specs.declared.scope.Scope.{Scope}
use Rattle.group_expand.specs.Scope.{IsScope, objects_in, site_in}
use Rattle.group_expand.specs.Sets.{object_seen, rows_seen, group_set, is_there, are_there}

-- ---- lists

module _ {A : Type 0} (test : A → Bool) where
  pub all_both : (xs ys : List A) → list_all test xs ≡ true → list_all test ys ≡ true → list_all test (xs ++ ys) ≡ true
  all_both [] ys h g = g
  all_both (x ∷ xs) ys h g = let a = and_parts (test x) (list_all test xs) h in and_from (test x) (list_all test (xs ++ ys)) a.0 (all_both xs ys a.1 g)

  kept_one : (b : Bool) (x : A) (ys : List A) → test x ≡ true → list_all test ys ≡ true → list_all test (cond b (x ∷ ys) ys) ≡ true
  kept_one true x ys h g = and_from (test x) (list_all test ys) h g
  kept_one false x ys h g = g

  pub all_kept : (p : A → Bool) (xs : List A) → list_all test xs ≡ true → list_all test (filter p xs) ≡ true
  all_kept p [] h = refl
  all_kept p (x ∷ xs) h = let a = and_parts (test x) (list_all test xs) h in kept_one (p x) x (filter p xs) a.0 (all_kept p xs a.1)

  pub all_once : (same : A → A → Bool) (xs : List A) → list_all test xs ≡ true → list_all test (once_each same xs) ≡ true
  all_once same [] h = refl
  all_once same (x ∷ xs) h =
      let a = and_parts (test x) (list_all test xs) h in
      and_from (test x) (list_all test (filter (λ y. not (same x y)) (once_each same xs))) a.0 (all_kept (λ y. not (same x y)) (once_each same xs) (all_once same xs a.1))

all_made : {A B : Type 0} (test : A → Bool) (goal : B → Bool) (f : A → B) → ((x : A) → test x ≡ true → goal (f x) ≡ true) → (xs : List A) → list_all test xs ≡ true → list_all goal (map f xs) ≡ true
all_made test goal f is [] h = refl
all_made test goal f is (x ∷ xs) h =
    let a = and_parts (test x) (list_all test xs) h in and_from (goal (f x)) (list_all goal (map f xs)) (is x a.0) (all_made test goal f is xs a.1)

all_flat : {A B : Type 0} (test : A → Bool) (goal : B → Bool) (f : A → List B) → ((x : A) → test x ≡ true → list_all goal (f x) ≡ true) → (xs : List A) → list_all test xs ≡ true →
    list_all goal (flat_map f xs) ≡ true
all_flat test goal f is [] h = refl
all_flat test goal f is (x ∷ xs) h =
    let a = and_parts (test x) (list_all test xs) h in all_both goal (f x) (flat_map f xs) (is x a.0) (all_flat test goal f is xs a.1)

range_below : (a n count : ℕ) → a + n ≡ count → list_all (λ k. nat_lt k count) (range_with_len a n) ≡ true
range_below a zero count e = refl
range_below a (suc n) count e =
    and_from (nat_lt a count) (list_all (λ k. nat_lt k count) (range_with_len (a + 1) n)) (lt-ltb a count (omega (arith, e))) (range_below (a + 1) n count (omega (arith, e)))

pub numbers_are_below : (n : ℕ) → list_all (λ k. nat_lt k n) (numbers_below n) ≡ true
numbers_are_below n = range_below 0 n n (omega arith)

all_true : {A : Type 0} (xs : List A) → list_all (λ x. true) xs ≡ true
all_true [] = refl
all_true (x ∷ xs) = all_true xs

-- ---- objects

module _ (s : Site) (areas : List (List ℕ)) (groups : ℕ → List Object) (user : List Object) (sound : IsSound s.policy) (each : length s.zones ≡ length s.policy.nets)
    (members : (g : ℕ) → are_there s.policy (groups g) ≡ true) (users : are_there s.policy user ≡ true) where
  abbrev p : Policy
  p = s.policy

  below : (test : ℕ → Bool) → list_all (λ k. nat_lt k (length p.nets)) (filter test (numbers_below (length p.nets))) ≡ true
  below test = all_kept (λ k. nat_lt k (length p.nets)) test (numbers_below (length p.nets)) (numbers_are_below (length p.nets))

  nets_there : (xs : List ℕ) → list_all (λ k. nat_lt k (length p.nets)) xs ≡ true → are_there p (map NetObject xs) ≡ true
  nets_there xs h = all_made (λ k. nat_lt k (length p.nets)) (is_there p) NetObject (λ k e. e) xs h

  zone_below : (z : ℕ) → list_all (λ k. nat_lt k (length p.nets)) (nets_in s z) ≡ true
  zone_below z = subst (λ (n : ℕ). list_all (λ k. nat_lt k (length p.nets)) (filter (λ m. zone_of s m == z) (numbers_below n)) ≡ true) (sym each) (below (λ m. zone_of s m == z))

  zones_there : (only : Option Cidr) (ns : List ℕ) → are_there p (object_set (zone_nets s only ns)) ≡ true
  zones_there only ns =
      all_once (is_there p) same_object (zone_nets s only ns)
      (nets_there (filter (is_asked p only) (flat_map (λ n. nets_in s (zone_of s n)) ns))
      (all_kept (λ k. nat_lt k (length p.nets)) (is_asked p only) (flat_map (λ n. nets_in s (zone_of s n)) ns)
      (all_flat (λ n. true) (λ k. nat_lt k (length p.nets)) (λ n. nets_in s (zone_of s n)) (λ n h. zone_below (zone_of s n)) ns (all_true ns))))

  pub net_there : (o : Object) → is_there p o ≡ true → is_there p (NetObject (net_of_object p o)) ≡ true
  net_there (NetObject n) h = h
  net_there (HostObject x) h = lt-ltb (host_of p x).net (length p.nets) (sound.numbered.hosts x (ltb-true x (length p.hosts) h))
  net_there (IfaceObject i) h = lt-ltb (net_at p i) (length p.nets) (sound.numbered.placed i (ltb-true i (length p.ifaces) h)).0

  hosts_there : (o : Object) → is_there p o ≡ true → are_there p (hosts_of_object p o) ≡ true
  hosts_there (NetObject n) h =
      all_made (λ k. nat_lt k (length p.hosts)) (is_there p) HostObject (λ k e. e) (filter (λ x. (host_of p x).net == n) (all_hosts p))
      (all_kept (λ k. nat_lt k (length p.hosts)) (λ x. (host_of p x).net == n) (all_hosts p) (numbers_are_below (length p.hosts)))
  hosts_there (HostObject x) h = and_from (is_there p (HostObject x)) true h refl
  hosts_there (IfaceObject i) h = refl

  pub objects_there : (e : ObjectExpr) → is_sound_expr p true true e ≡ true → are_there p (objects_by s areas groups user e) ≡ true
  objects_there NoObjects h = refl
  objects_there (OneNet n) h = and_from (nat_lt n (length p.nets)) true h refl
  objects_there (OneHost x) h = and_from (nat_lt x (length p.hosts)) true h refl
  objects_there (OneIface i) h = and_from (nat_lt i (length p.ifaces)) true (and_parts (nat_lt i (length p.ifaces)) (is_managed p (router_at p i) || is_some (iface_of p i).addr) h).0 refl
  objects_there (OfGroup g) h = members g
  objects_there (OfAggregate k) h = zones_there (aggregate_of p k).only ((aggregate_of p k).link ∷ [])
  objects_there (OfArea k) h = nets_there (area_nets s areas k) (below (λ n. has (area_zones areas k) (zone_of s n)))
  objects_there OfUser h = users
  objects_there (NetsOf e) h =
      all_once (is_there p) same_object (map (λ o. NetObject (net_of_object p o)) (objects_by s areas groups user e))
      (all_made (is_there p) (is_there p) (λ o. NetObject (net_of_object p o)) net_there (objects_by s areas groups user e) (objects_there e h))
  objects_there (HostsOf e) h =
      all_once (is_there p) same_object (flat_map (hosts_of_object p) (objects_by s areas groups user e))
      (all_flat (is_there p) (is_there p) (hosts_of_object p) hosts_there (objects_by s areas groups user e) (objects_there e h))
  objects_there (ZonesOf only e) h = zones_there only (map (net_of_object p) (objects_by s areas groups user e))
  objects_there (Joined e f) h =
      let a = and_parts (is_sound_expr p true true e) (is_sound_expr p true true f) h in
      all_once (is_there p) same_object (objects_by s areas groups user e ++ objects_by s areas groups user f)
      (all_both (is_there p) (objects_by s areas groups user e) (objects_by s areas groups user f) (objects_there e a.0) (objects_there f a.1))
  objects_there (Common e f) h =
      let a = and_parts (is_sound_expr p true true e) (is_sound_expr p true true f) h in
      all_kept (is_there p) (has_object (objects_by s areas groups user f)) (objects_by s areas groups user e) (objects_there e a.0)
  objects_there (Without e f) h =
      let a = and_parts (is_sound_expr p true true e) (is_sound_expr p true true f) h in
      all_kept (is_there p) (λ o. not (has_object (objects_by s areas groups user f) o)) (objects_by s areas groups user e) (objects_there e a.0)

-- ---- the same, in memory

pub sound_set : (scope : Scope) (e : ObjectExpr) (found : List code.Object) → map object_seen found ≡ objects_in scope e → IsScope scope → is_sound_expr (policy_of scope.topo) true true e ≡ true →
    are_there (policy_of scope.topo) (map object_seen found) ≡ true
sound_set scope e found is of h =
    subst (λ (l : List Object). are_there (policy_of scope.topo) l ≡ true) (sym is)
    (objects_there (site_in scope) scope.areas.now (group_set (rows_seen scope.groups.now)) (map object_seen scope.user.now) scope.topo.kept.sound of.graph.table.each of.members of.user e h)
