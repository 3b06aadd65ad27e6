-- Walks that begin with the crossings so far.
use Rattle.std.proofs.Common.{◌≡◌, ℕ, ◌+◌, ◌≤◌, Bool, true, false, List, [], ◌∷◌, ◌++◌, length, refl, sym, ap, subst, ◌∙◌}
use Rattle.std.specs.Prelude.{◌==◌, IsTrue}
use Rattle.std.specs.List.{list_all}
use Rattle.std.proofs.Math.ListN.{length-append}
use Rattle.std.proofs.lemmas.Bool.{and_parts, and_from, eqb-true, eq-eqb, false≢true, not-true}
use Rattle.policy_model.specs.Lists.{is_nothing}
use Rattle.policy_model.specs.Policy.{managed_routers, all_ifaces}
use Rattle.policy_model.specs.Paths.{Crossing, leads, same_crossing, is_start_of}
use Rattle.policy_model.specs.Zones.{Site, zone_of}
use Rattle.policy_model.specs.Walks.{is_crossing, is_allowed_walk}
use Rattle.policy_model.specs.Permits.{Packet}
use Rattle.policy_model.specs.Packets.{walks_of}
use Rattle.policy_model.specs.Delivery.{goes_into, is_on_way, may_enter, IsChoice}
use Rattle.policy_model.proofs.AllWalks.{IsIn, some_walk, in_allowed_walks, parts_of, no_longer, in_numbers}
use Rattle.list_laws.proofs.Members.{some_of}
use Rattle.policy_laws.proofs.Devices.{interfaces_below}

-- ---- one path and another

pub same_is_equal : (c d : Crossing) → same_crossing c d ≡ true → c ≡ d
same_is_equal c d h =
    let w = and_parts (c.enter == d.enter) (c.leave == d.leave) h in
    ap (λ (i : ℕ). let x : Crossing = record { enter = i; leave = c.leave } in x) (eqb-true c.enter d.enter w.0)
    ∙ ap (λ (i : ℕ). let x : Crossing = record { enter = d.enter; leave = i } in x) (eqb-true c.leave d.leave w.1)

is_same : (c : Crossing) → same_crossing c c ≡ true
is_same c = and_from (c.enter == c.enter) (c.leave == c.leave) (eq-eqb c.enter c.enter refl) (eq-eqb c.leave c.leave refl)

pub starts : (cs path : List Crossing) → is_start_of cs path ≡ true → (rest : List Crossing) × (path ≡ cs ++ rest)
starts [] path h = (path, refl)
starts (c ∷ cs) [] h = absurd (false≢true h)
starts (c ∷ cs) (d ∷ ds) h =
    let w = and_parts (same_crossing c d) (is_start_of cs ds) h in
    let r = starts cs ds w.1 in
    (r.0, ap (λ (x : Crossing). x ∷ ds) (sym (same_is_equal c d w.0)) ∙ ap (λ xs. c ∷ xs) r.1)

pub is_start : (cs rest : List Crossing) → is_start_of cs (cs ++ rest) ≡ true
is_start [] rest = refl
is_start (c ∷ cs) rest = and_from (same_crossing c c) (is_start_of cs (cs ++ rest)) (is_same c) (is_start cs rest)

-- the rest of a path that begins with the crossings and then enters there
pub record GoesOn (cs path : List Crossing) (i : ℕ) : Type 0 where
  pub next : Crossing
  pub rest : List Crossing
  pub is : path ≡ cs ++ next ∷ rest
  pub enters : next.enter ≡ i

pub goes_on : (cs : List Crossing) (i : ℕ) (path : List Crossing) → goes_into cs i path ≡ true → GoesOn cs path i
goes_on [] i [] h = absurd (false≢true h)
goes_on (c ∷ cs) i [] h = absurd (false≢true h)
goes_on [] i (d ∷ ds) h = record { next = d; rest = ds; is = refl; enters = eqb-true d.enter i h }
goes_on (c ∷ cs) i (d ∷ ds) h =
    let w = and_parts (same_crossing c d) (goes_into cs i ds) h in
    let r = goes_on cs i ds w.1 in
    record { next = r.next; rest = r.rest; is = ap (λ (x : Crossing). x ∷ ds) (sym (same_is_equal c d w.0)) ∙ ap (λ xs. c ∷ xs) r.is; enters = r.enters }

pub goes_there : (cs : List Crossing) (d : Crossing) (rest : List Crossing) → goes_into cs d.enter (cs ++ d ∷ rest) ≡ true
goes_there [] d rest = eq-eqb d.enter d.enter refl
goes_there (c ∷ cs) d rest = and_from (same_crossing c c) (goes_into cs d.enter (cs ++ d ∷ rest)) (is_same c) (goes_there cs d rest)

pub one_more : (cs : List Crossing) (d : Crossing) (rest : List Crossing) → cs ++ d ∷ rest ≡ (cs ++ d ∷ []) ++ rest
one_more [] d rest = refl
one_more (c ∷ cs) d rest = ap (λ xs. c ∷ xs) (one_more cs d rest)

pub length-one_more : (cs : List Crossing) (d : Crossing) → length (cs ++ d ∷ []) ≡ length cs + 1
length-one_more cs d = length-append cs (d ∷ [])

pub crossing_in : (t : Crossing → Bool) (cs : List Crossing) (d : Crossing) (rest : List Crossing) → list_all t (cs ++ d ∷ rest) ≡ true → t d ≡ true
crossing_in t [] d rest h = (and_parts (t d) (list_all t rest) h).0
crossing_in t (c ∷ cs) d rest h = crossing_in t cs d rest (and_parts (t c) (list_all t (cs ++ d ∷ rest)) h).1

-- a path that has come to its end is there
pub ends_there : (at : ℕ → ℕ) (from to : ℕ) (cs : List Crossing) (d : Crossing) → leads at from (cs ++ d ∷ []) to ≡ true → (at d.leave == to) ≡ true
ends_there at from to [] d h = (and_parts (at d.enter == from) (at d.leave == to) h).1
ends_there at from to (c ∷ cs) d h = ends_there at (at c.leave) to cs d (and_parts (at c.enter == from) (leads at (at c.leave) (cs ++ d ∷ []) to) h).1

-- ---- walks of a packet

abbrev pub IsItsWalk : Site → Packet → List Crossing → Type 0
IsItsWalk s x path = IsTrue (is_allowed_walk s (zone_of s x.src.net) (zone_of s x.dst.net) path)

pub short : (s : Site) (x : Packet) (path : List Crossing) → IsItsWalk s x path → length path ≤ length (managed_routers s.policy)
short s x path h = let w = parts_of s (zone_of s x.src.net) (zone_of s x.dst.net) path h in no_longer s path w.crossings w.routers_once

-- a walk goes on from the crossings so far
pub record GoesFrom (s : Site) (x : Packet) (so_far : List Crossing) : Type 0 where
  pub next : Crossing
  pub rest : List Crossing
  pub walk : IsItsWalk s x (so_far ++ next ∷ rest)

-- a walk has something
pub leaves : (s : Site) (x : Packet) (path : List Crossing) → IsItsWalk s x path → GoesFrom s x []
leaves s x [] h =
    let w = parts_of s (zone_of s x.src.net) (zone_of s x.dst.net) [] h in
    let n = zone_of s x.src.net == zone_of s x.dst.net in
    absurd (false≢true (sym (not-true n w.elsewhere) ∙ w.ends))
leaves s x (c ∷ path) h = record { next = c; rest = path; walk = h }

-- where a walk goes on, the zone chooses one that does
pub chosen : (s : Site) (x : Packet) (choose : List Crossing → ℕ) → IsChoice s x choose → (so_far : List Crossing) → GoesFrom s x so_far →
    (w : GoesFrom s x so_far) × (w.next.enter ≡ choose so_far)
chosen s x choose choice so_far g =
    let from = zone_of s x.src.net in
    let to = zone_of s x.dst.net in
    let path = so_far ++ g.next ∷ g.rest in
    let w = parts_of s from to path g.walk in
    let below = interfaces_below s g.next (crossing_in (is_crossing s) so_far g.next g.rest w.crossings) in
    let here : may_enter s x so_far g.next.enter ≡ true = (some_walk s from to (goes_into so_far g.next.enter)).1 (path, g.walk, goes_there so_far g.next g.rest) in
    let some = some_of (may_enter s x so_far) g.next.enter (all_ifaces s.policy) (in_numbers (length s.policy.ifaces) g.next.enter below.0) here in
    let entered = (some_walk s from to (goes_into so_far (choose so_far))).0 (choice so_far some) in
    let f = goes_on so_far (choose so_far) entered.0 entered.2 in
    (record { next = f.next; rest = f.rest; walk = subst (IsItsWalk s x) f.is entered.1 }, f.enters)

-- the crossings so far are on the way
pub on_way : (s : Site) (x : Packet) (so_far : List Crossing) (d : Crossing) (rest : List Crossing) → IsItsWalk s x (so_far ++ d ∷ rest) → is_on_way s x (so_far ++ d ∷ []) ≡ true
on_way s x so_far d rest h =
    (some_walk s (zone_of s x.src.net) (zone_of s x.dst.net) (is_start_of (so_far ++ d ∷ []))).1
    (so_far ++ d ∷ rest, h, subst (λ path. is_start_of (so_far ++ d ∷ []) path ≡ true) (sym (one_more so_far d rest)) (is_start (so_far ++ d ∷ []) rest))

-- and what is on the way, a walk goes on from
pub way_on : (s : Site) (x : Packet) (so_far : List Crossing) → is_on_way s x so_far ≡ true → (rest : List Crossing) × IsItsWalk s x (so_far ++ rest)
way_on s x so_far h =
    let w = (some_walk s (zone_of s x.src.net) (zone_of s x.dst.net) (is_start_of so_far)).0 h in
    let r = starts so_far w.0 w.2 in
    (r.0, subst (IsItsWalk s x) r.1 w.1)

-- the list of a packet's walks has some where there is one
pub some_walks : (s : Site) (x : Packet) (path : List Crossing) → IsItsWalk s x path → is_nothing (walks_of s x) ≡ false
some_walks s x path h = has_some (walks_of s x) path (in_allowed_walks s (zone_of s x.src.net) (zone_of s x.dst.net) path h)
  where
    has_some : (xs : List (List Crossing)) (y : List Crossing) → IsIn y xs → is_nothing xs ≡ false
    has_some [] y h = absurd h
    has_some (z ∷ zs) y h = refl
