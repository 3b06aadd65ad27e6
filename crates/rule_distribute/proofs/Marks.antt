-- What tables of marks tell of the walks between two zones.
use Rattle.std.proofs.Common.{◌≡◌, ℕ, ◌<◌, inl, Bool, true, not, ◌&&◌, List, [], ◌∷◌, refl, sym, subst, ◌∙◌, length}
use Rattle.std.specs.Prelude.{◌==◌, nat_lt}
use Rattle.std.specs.List.{list_any}
use Rattle.std.proofs.lemmas.Bool.{and_parts, and_from, eqb-true, eq-eqb, ltb-true, both_ways, not-true, false≢true}
use Rattle.policy_model.specs.Lists.{pairs_of, is_nothing}
use Rattle.policy_model.specs.Policy.{all_ifaces, router_at, is_managed}
use Rattle.policy_model.specs.Paths.{Crossing, all_steps, same_crossing, crosses_managed, is_through_router}
use Rattle.policy_model.specs.Zones.{Site, zone_at}
use Rattle.policy_model.specs.Walks.{is_crossing, is_allowed_walk, all_crossings, all_paths, allowed_walks, enters_on_way}
use Rattle.policy_model.specs.Marks.{marked_crossings}
use Rattle.policy_model.proofs.AllWalks.{IsIn, in_map, in_filter, in_numbers, in_pairs, parts_of}
use Rattle.list_laws.proofs.Members.{from_filter, some_in, some_of, each_in, same_truth}

abbrev pub enters_at : ℕ → Crossing → Bool
enters_at i c = c.enter == i

abbrev pub is_marked : Site → ℕ → ℕ → Crossing → Bool
is_marked s from to c = list_any (λ path. list_any (same_crossing c) path) (allowed_walks s from to)

pub record AreIfaces (s : Site) (c : Crossing) : Type 0 where
  pub enter : c.enter < length s.policy.ifaces
  pub leave : c.leave < length s.policy.ifaces

pub ifaces_of_crossing : (s : Site) (c : Crossing) → is_crossing s c ≡ true → AreIfaces s c
ifaces_of_crossing s c h =
    let a = and_parts (crosses_managed s.policy c) (not (zone_at s c.enter == zone_at s c.leave)) h in
    let b = and_parts (is_through_router s.policy c) (is_managed s.policy (router_at s.policy c.enter)) a.0 in
    let d = and_parts (nat_lt c.enter (length s.policy.ifaces) && nat_lt c.leave (length s.policy.ifaces)) (router_at s.policy c.enter == router_at s.policy c.leave) b.0 in
    let e = and_parts (nat_lt c.enter (length s.policy.ifaces)) (nat_lt c.leave (length s.policy.ifaces)) d.0 in
    record { enter = ltb-true c.enter (length s.policy.ifaces) e.0; leave = ltb-true c.leave (length s.policy.ifaces) e.1 }

is_listed : (s : Site) (c : Crossing) → is_crossing s c ≡ true → IsIn c (all_crossings s)
is_listed s c h =
    let w = ifaces_of_crossing s c h in
    let n = length s.policy.ifaces in
    in_filter (is_crossing s) c (all_steps s.policy)
    (in_map (λ (e : ℕ × ℕ). step_of e) (c.enter, c.leave) (pairs_of (all_ifaces s.policy) (all_ifaces s.policy)) (in_pairs c.enter c.leave (all_ifaces s.policy) (all_ifaces s.policy) (in_numbers n c.enter w.enter) (in_numbers n c.leave w.leave))) h
  where
    step_of : ℕ × ℕ → Crossing
    step_of e = record { enter = e.0; leave = e.1 }

pub on_walk : (s : Site) (from to : ℕ) (path : List Crossing) (c : Crossing) → IsIn path (allowed_walks s from to) → IsIn c path → IsIn c (marked_crossings s from to)
on_walk s from to path c i j =
    let allowed = (from_filter (is_allowed_walk s from to) path (all_paths s) i).1 in
    let crossing = each_in (is_crossing s) path (parts_of s from to path allowed).crossings c j in
    in_filter (is_marked s from to) c (all_crossings s) (is_listed s c crossing)
    (some_of (λ path. list_any (same_crossing c) path) path (allowed_walks s from to) i (some_of (same_crossing c) c path j (and_from _ _ (eq-eqb c.enter c.enter refl) (eq-eqb c.leave c.leave refl))))

-- the interfaces at which walks enter are those of the marked crossings
pub enters_marked : (s : Site) (from to i : ℕ) → list_any (enters_at i) (marked_crossings s from to) ≡ enters_on_way s from to i
enters_marked s from to i =
    same_truth (list_any (enters_at i) (marked_crossings s from to)) (enters_on_way s from to i) forth back
  where
    forth : list_any (enters_at i) (marked_crossings s from to) ≡ true → enters_on_way s from to i ≡ true
    forth h =
        let c = some_in (enters_at i) (marked_crossings s from to) h in
        let m = from_filter (is_marked s from to) c.0 (all_crossings s) c.1 in
        let path = some_in (λ path. list_any (same_crossing c.0) path) (allowed_walks s from to) m.1 in
        let d = some_in (same_crossing c.0) path.0 path.2 in
        let same = eqb-true c.0.enter d.0.enter (and_parts (c.0.enter == d.0.enter) (c.0.leave == d.0.leave) d.2).0 in
        some_of (λ path. list_any (enters_at i) path) path.0 (allowed_walks s from to) path.1 (some_of (enters_at i) d.0 path.0 d.1 (eq-eqb d.0.enter i (sym same ∙ eqb-true c.0.enter i c.2)))

    back : enters_on_way s from to i ≡ true → list_any (enters_at i) (marked_crossings s from to) ≡ true
    back h =
        let path = some_in (λ path. list_any (enters_at i) path) (allowed_walks s from to) h in
        let c = some_in (enters_at i) path.0 path.2 in
        some_of (enters_at i) c.0 (marked_crossings s from to) (on_walk s from to path.0 c.0 path.1 c.1) c.2

-- each marked crossing's interfaces are there
pub marked_there : (s : Site) (from to : ℕ) (c : Crossing) → IsIn c (marked_crossings s from to) → c.enter < length s.policy.ifaces
marked_there s from to c h =
    let m = from_filter (is_marked s from to) c (all_crossings s) h in
    (ifaces_of_crossing s c (from_filter (is_crossing s) c (all_steps s.policy) m.0).1).enter

pub marked_leaves : (s : Site) (from to : ℕ) (c : Crossing) → IsIn c (marked_crossings s from to) → c.leave < length s.policy.ifaces
marked_leaves s from to c h =
    let m = from_filter (is_marked s from to) c (all_crossings s) h in
    (ifaces_of_crossing s c (from_filter (is_crossing s) c (all_steps s.policy) m.0).1).leave

-- there is no walk just where no crossing is marked
pub no_walk : (s : Site) (from to : ℕ) → is_nothing (marked_crossings s from to) ≡ is_nothing (allowed_walks s from to)
no_walk s from to = same_truth (is_nothing (marked_crossings s from to)) (is_nothing (allowed_walks s from to)) (λ h. forth (allowed_walks s from to) refl h) back
  where
    some : (cs : List Crossing) (c : Crossing) → IsIn c cs → is_nothing cs ≡ true → ⊥
    some [] c i h = i
    some (d ∷ cs) c i h = false≢true h

    walk_has : (path : List Crossing) → IsIn path (allowed_walks s from to) → (c : Crossing) × IsIn c path
    walk_has [] i =
        let parts = parts_of s from to [] (from_filter (is_allowed_walk s from to) [] (all_paths s) i).1 in
        absurd (both_ways (from == to) (not-true (from == to) parts.elsewhere) parts.ends)
    walk_has (c ∷ path) i = (c, inl refl)

    forth : (walks : List (List Crossing)) → walks ≡ allowed_walks s from to → is_nothing (marked_crossings s from to) ≡ true → is_nothing walks ≡ true
    forth [] e h = refl
    forth (path ∷ walks) e h =
        let i = subst (λ (ws : List (List Crossing)). IsIn path ws) e (inl refl) in
        let c = walk_has path i in
        absurd (some (marked_crossings s from to) c.0 (on_walk s from to path c.0 i c.1) h)

    none : (cs : List Crossing) → ((c : Crossing) → IsIn c cs → ⊥) → is_nothing cs ≡ true
    none [] h = refl
    none (c ∷ cs) h = absurd (h c (inl refl))

    empty : (walks : List (List Crossing)) → is_nothing walks ≡ true → (path : List Crossing) → IsIn path walks → ⊥
    empty [] h path i = i
    empty (w ∷ ws) h path i = false≢true h

    back : is_nothing (allowed_walks s from to) ≡ true → is_nothing (marked_crossings s from to) ≡ true
    back h =
        none (marked_crossings s from to)
        (λ c i.
        let m = from_filter (is_marked s from to) c (all_crossings s) i in
        let path = some_in (λ path. list_any (same_crossing c) path) (allowed_walks s from to) m.1 in
        empty (allowed_walks s from to) h path.0 path.1)
