-- The zones that walks pass, by their crossings, and the ends of permits that are hidden there.
use Rattle.std.proofs.Common.{◌≡◌, ℕ, ◌+◌, ◌<◌, ◌≤◌, ◌⊎◌, inl, inr, Bool, true, false, cond, not, ◌&&◌, ◌||◌, List, [], ◌∷◌, length, map, refl, sym, ap, subst, ◌∙◌, ⊎_elim, arith, slice_index_or}
use Rattle.std.specs.Prelude.{◌==◌, Option, None, Some, option_map, unwrap_or, find, is_none}
use Rattle.std.specs.List.{list_any}
use Rattle.std.proofs.lemmas.Bool.{and_parts, and_from, or_cases, or_left, or_right, eqb-true, eq-eqb, not-true, not_from_false, false_from_ne_true, false≢true, both_ways, cases_lt}
use Rattle.spoc_base.specs.Address.{Cidr}
use Rattle.spoc_base.specs.Shown.{cidr_of}
use Rattle.spoc_base.specs.declared.address.Prefix.{Prefix}
use Rattle.spoc_base.specs.declared.ids.TagId.{TagId}
use Rattle.policy_model.specs.Lists.{has}
use Rattle.policy_model.specs.Policy.{Policy, net_of}
use Rattle.policy_model.specs.Paths.{Crossing, same_crossing, leads, places_on}
use Rattle.policy_model.specs.Zones.{Site, zone_of, zone_at}
use Rattle.policy_model.specs.Walks.{is_allowed_walk, all_crossings, all_paths, allowed_walks}
use Rattle.policy_model.specs.Marks.{marked_crossings}
use Rattle.policy_model.specs.Tags.{Views, zone_view}
use Rattle.policy_model.specs.Places.{prefix_in}
use Rattle.policy_model.specs.Permits.{Permit}
use Rattle.policy_model.specs.Blocks.{permit_at}
use Rattle.policy_model.specs.Faults.{is_hidden_end}
use Rattle.policy_model.proofs.AllWalks.{IsIn, in_map, parts_of}
use Rattle.policy_model.proofs.Views.{list_any_map}
use Rattle.list_laws.proofs.Members.{from_filter, some_in, some_of, same_truth}
use Rattle.nat_view.specs.Seen.{Sight}
use Rattle.zone_graph.specs.declared.marks.Crossing.{Crossing as Stepped}
use Rattle.rule_distribute.specs.Hidden.{end_net, touches_zone, AreThere, IsHiddenIn, IsHiddenAt, NoneHiddenAt, IsSeenThroughout}
use Rattle.rule_distribute.specs.Paths.{crossing_seen}
use Rattle.rule_distribute.proofs.Marks.{is_marked, on_walk, marked_there, marked_leaves}
use Rattle.rule_distribute.proofs.Rising.{contains_in}
use Rattle.std.proofs.lemmas.List.{get_or_default}

-- ---- zones on a path

module _ (at : ℕ → ℕ) where
  abbrev touches : ℕ → Crossing → Bool
  touches z c = (at c.enter == z) || (at c.leave == z)

  -- each place on a path but the first is where a crossing leaves
  left_at : (from z : ℕ) (path : List Crossing) → has (places_on at from path) z ≡ true → ((from == z) ≡ true) ⊎ (list_any (λ c. at c.leave == z) path ≡ true)
  left_at from z [] h = ⊎_elim (λ e. inl e) (λ e. absurd (false≢true e)) (or_cases (from == z) false h)
  left_at from z (c ∷ path) h =
      ⊎_elim (λ e. inl e)
      (λ e. inr (⊎_elim (λ f. or_left (at c.leave == z) (list_any (λ c. at c.leave == z) path) f) (λ f. or_right (at c.leave == z) (list_any (λ c. at c.leave == z) path) f) (left_at (at c.leave) z path e)))
      (or_cases (from == z) (has (places_on at (at c.leave) path) z) h)

  -- where a crossing enters and leaves is on the path
  entered : (from to : ℕ) (path : List Crossing) (c : Crossing) → leads at from path to ≡ true → IsIn c path → has (places_on at from path) (at c.enter) ≡ true
  entered from to (d ∷ path) c h (inl e) =
      let a = and_parts (at d.enter == from) (leads at (at d.leave) path to) h in
      or_left (from == at c.enter) (has (places_on at (at d.leave) path) (at c.enter)) (eq-eqb from (at c.enter) (sym (ap (λ (x : Crossing). at x.enter) e ∙ eqb-true (at d.enter) from a.0)))
  entered from to (d ∷ path) c h (inr i) =
      let a = and_parts (at d.enter == from) (leads at (at d.leave) path to) h in
      or_right (from == at c.enter) (has (places_on at (at d.leave) path) (at c.enter)) (entered (at d.leave) to path c a.1 i)
  entered from to [] c h i = absurd i

  first_place : (from z : ℕ) (path : List Crossing) → (from == z) ≡ true → has (places_on at from path) z ≡ true
  first_place from z [] e = or_left (from == z) false e
  first_place from z (c ∷ path) e = or_left (from == z) (has (places_on at (at c.leave) path) z) e

  left : (from : ℕ) (path : List Crossing) (c : Crossing) → IsIn c path → has (places_on at from path) (at c.leave) ≡ true
  left from (d ∷ path) c (inl e) =
      or_right (from == at c.leave) (has (places_on at (at d.leave) path) (at c.leave)) (first_place (at d.leave) (at c.leave) path (eq-eqb (at d.leave) (at c.leave) (sym (ap (λ (x : Crossing). at x.leave) e))))
  left from (d ∷ path) c (inr i) = or_right (from == at c.leave) (has (places_on at (at d.leave) path) (at c.leave)) (left (at d.leave) path c i)
  left from [] c i = absurd i

  -- the first zone is where the first crossing enters
  touched_first : (from to z : ℕ) (path : List Crossing) → leads at from path to ≡ true → not (from == to) ≡ true → (from == z) ≡ true → list_any (touches z) path ≡ true
  touched_first from to z [] h differ e = absurd (both_ways (from == to) (not-true (from == to) differ) h)
  touched_first from to z (c ∷ path) h differ e =
      let a = and_parts (at c.enter == from) (leads at (at c.leave) path to) h in
      or_left (touches z c) (list_any (touches z) path) (or_left (at c.enter == z) (at c.leave == z) (eq-eqb (at c.enter) z (eqb-true (at c.enter) from a.0 ∙ eqb-true from z e)))

  touched : (from to z : ℕ) (path : List Crossing) → leads at from path to ≡ true → not (from == to) ≡ true → has (places_on at from path) z ≡ true → list_any (touches z) path ≡ true
  touched from to z path h differ e =
      ⊎_elim (λ f. touched_first from to z path h differ f)
      (λ f. let c = some_in (λ c. at c.leave == z) path f in some_of (touches z) c.0 path c.1 (or_right (at c.0.enter == z) (at c.0.leave == z) c.2))
      (left_at from z path e)

  on_path : (from to z : ℕ) (path : List Crossing) (c : Crossing) → leads at from path to ≡ true → IsIn c path → touches z c ≡ true → has (places_on at from path) z ≡ true
  on_path from to z path c h i e =
      ⊎_elim
      (λ f. subst (λ (x : ℕ). has (places_on at from path) x ≡ true) (eqb-true (at c.enter) z f) (entered from to path c h i))
      (λ f. subst (λ (x : ℕ). has (places_on at from path) x ≡ true) (eqb-true (at c.leave) z f) (left from path c i))
      (or_cases (at c.enter == z) (at c.leave == z) e)

-- ---- zones on walks

-- Some allowed walk passes the zone just where some marked crossing leads from it or to it.
pub touched_marks : (s : Site) (from to z : ℕ) → list_any (touches_zone s z) (marked_crossings s from to) ≡ list_any (λ path. has (places_on (zone_at s) from path) z) (allowed_walks s from to)
touched_marks s from to z =
    same_truth (list_any (touches_zone s z) (marked_crossings s from to)) (list_any (λ path. has (places_on (zone_at s) from path) z) (allowed_walks s from to)) forth back
  where
    forth : list_any (touches_zone s z) (marked_crossings s from to) ≡ true → list_any (λ path. has (places_on (zone_at s) from path) z) (allowed_walks s from to) ≡ true
    forth h =
        let c = some_in (touches_zone s z) (marked_crossings s from to) h in
        let m = from_filter (is_marked s from to) c.0 (all_crossings s) c.1 in
        let path = some_in (λ path. list_any (same_crossing c.0) path) (allowed_walks s from to) m.1 in
        let d = some_in (same_crossing c.0) path.0 path.2 in
        let same = and_parts (c.0.enter == d.0.enter) (c.0.leave == d.0.leave) d.2 in
        let here : touches_zone s z d.0 ≡ true =
        ap (λ (n : ℕ). (zone_at s n == z) || (zone_at s d.0.leave == z)) (sym (eqb-true c.0.enter d.0.enter same.0))
        ∙ (ap (λ (n : ℕ). (zone_at s c.0.enter == z) || (zone_at s n == z)) (sym (eqb-true c.0.leave d.0.leave same.1)) ∙ c.2) in
        let parts = parts_of s from to path.0 (from_filter (is_allowed_walk s from to) path.0 (all_paths s) path.1).1 in
        some_of (λ path. has (places_on (zone_at s) from path) z) path.0 (allowed_walks s from to) path.1 (on_path (zone_at s) from to z path.0 d.0 parts.ends d.1 here)

    back : list_any (λ path. has (places_on (zone_at s) from path) z) (allowed_walks s from to) ≡ true → list_any (touches_zone s z) (marked_crossings s from to) ≡ true
    back h =
        let path = some_in (λ path. has (places_on (zone_at s) from path) z) (allowed_walks s from to) h in
        let parts = parts_of s from to path.0 (from_filter (is_allowed_walk s from to) path.0 (all_paths s) path.1).1 in
        let c = some_in (touches_zone s z) path.0 (touched (zone_at s) from to z path.0 parts.ends parts.elsewhere path.2) in
        some_of (touches_zone s z) c.0 (marked_crossings s from to) (on_walk s from to path.0 c.0 path.1 c.1) c.2

-- the same of crossings in memory
pub passed_by : (s : Site) (from to z : ℕ) (cs : List Stepped) → map crossing_seen cs ≡ marked_crossings s from to →
    list_any (λ c. touches_zone s z (crossing_seen c)) cs ≡ list_any (λ path. has (places_on (zone_at s) from path) z) (allowed_walks s from to)
passed_by s from to z cs marks = sym (list_any_map (touches_zone s z) crossing_seen cs) ∙ (ap (list_any (touches_zone s z)) marks ∙ touched_marks s from to z)

-- their interfaces are there
pub are_there : (s : Site) (from to : ℕ) (cs : List Stepped) → map crossing_seen cs ≡ marked_crossings s from to → AreThere s.policy cs
are_there s from to cs marks = λ k d below.
    let c = slice_index_or cs k d in
    let i = subst (IsIn (crossing_seen c)) marks (in_map crossing_seen c cs (contains_in cs c (k, below, get_or_default cs k c d below))) in
    (marked_there s from to (crossing_seen c) i, marked_leaves s from to (crossing_seen c) i)

-- ---- hidden ends

module _ (s : Site) (v : Views) (q : Permit) where
  abbrev from : ℕ
  from = zone_of s q.src.net

  abbrev to : ℕ
  to = zone_of s q.dst.net

  abbrev passed : ℕ → Bool
  passed z = list_any (λ path. has (places_on (zone_at s) from path) z) (allowed_walks s from to)

  abbrev hides : ℕ → ℕ → Bool
  hides z n = is_none (prefix_in s.policy (zone_view v z) n)

  abbrev its : ℕ → Bool
  its n = (n == q.src.net) || (n == q.dst.net)

  record EndParts (n z : ℕ) : Type 0 where
    pub differ : not (from == to) ≡ true
    pub side : (b : Bool) × (n ≡ end_net q b)
    pub hidden : hides z n ≡ true
    pub passes : passed z ≡ true

  end_parts : (n z : ℕ) → is_hidden_end s v q n z ≡ true → EndParts n z
  end_parts n z h =
      let a = and_parts (not (from == to) && its n && hides z n) (passed z) h in
      let b = and_parts (not (from == to) && its n) (hides z n) a.0 in
      let c = and_parts (not (from == to)) (its n) b.0 in
      record {
        differ = c.0;
        side = ⊎_elim (λ e. (false, eqb-true n q.src.net e)) (λ e. (true, eqb-true n q.dst.net e)) (or_cases (n == q.src.net) (n == q.dst.net) c.1);
        hidden = b.1;
        passes = a.1;
      }

  its_end : (b : Bool) → its (end_net q b) ≡ true
  its_end false = or_left (q.src.net == q.src.net) (q.src.net == q.dst.net) (eq-eqb q.src.net q.src.net refl)
  its_end true = or_right (q.dst.net == q.src.net) (q.dst.net == q.dst.net) (eq-eqb q.dst.net q.dst.net refl)

  -- nothing is hidden where neither end is
  pub none_seen : (z : ℕ) → ((b : Bool) → hides z (end_net q b) ≡ false) → NoneHiddenAt s v q z
  none_seen z seen n =
      false_from_ne_true (is_hidden_end s v q n z)
      (λ h. let p = end_parts n z h in false≢true (sym (seen p.side.0) ∙ (ap (hides z) (sym p.side.1) ∙ p.hidden)))

  -- nor where no walk passes
  pub none_passed : (z : ℕ) → passed z ≡ false → NoneHiddenAt s v q z
  none_passed z off n = false_from_ne_true (is_hidden_end s v q n z) (λ h. let p = end_parts n z h in false≢true (sym off ∙ p.passes))

  -- nor within one zone
  pub none_within : (from == to) ≡ true → (z : ℕ) → NoneHiddenAt s v q z
  none_within same z n = false_from_ne_true (is_hidden_end s v q n z) (λ h. let p = end_parts n z h in both_ways (from == to) (not-true (from == to) p.differ) same)

  hidden_there : (z : ℕ) (b : Bool) → (from == to) ≡ false → hides z (end_net q b) ≡ true → passed z ≡ true → is_hidden_end s v q (end_net q b) z ≡ true
  hidden_there z b differ h on =
      and_from (not (from == to) && its (end_net q b) && hides z (end_net q b)) (passed z)
      (and_from (not (from == to) && its (end_net q b)) (hides z (end_net q b)) (and_from (not (from == to)) (its (end_net q b)) (not_from_false (from == to) differ) (its_end b)) h) on

  pub hidden_end_there : (z : ℕ) (b : Bool) → (from == to) ≡ false → IsHiddenIn s.policy (zone_view v z) q (Some b) → passed z ≡ true → IsHiddenAt s v q z b
  hidden_end_there z false differ h on = record { hidden = hidden_there z false differ h on; source = λ e. absurd (false≢true e) }
  hidden_end_there z true differ h on = record {
    hidden = hidden_there z true differ h.1 on;
    source = λ e. false_from_ne_true (is_hidden_end s v q q.src.net z) (λ t. let p = end_parts q.src.net z t in false≢true (sym h.0 ∙ p.hidden));
  }

-- ---- in a view

-- neither end is hidden
pub neither_end : (p : Policy) (view : List ℕ) (q : Permit) → is_none (prefix_in p view q.src.net) ≡ false → is_none (prefix_in p view q.dst.net) ≡ false → IsHiddenIn p view q None
neither_end p view q a b false = a
neither_end p view q a b true = b

-- what is found in the view of a zone
pub sighted : (sight : Sight) (p : Policy) (view : List ℕ) (q : Permit) (found o : Option Bool) → sight.policy ≡ p → sight.tags ≡ view → IsHiddenIn sight.policy sight.tags q found → found ≡ o → IsHiddenIn p view q o
sighted sight p view q found o e f h g = subst (IsHiddenIn p view q) g (subst (λ (t : List ℕ). IsHiddenIn p t q found) f (subst (λ (x : Policy). IsHiddenIn x sight.tags q found) e h))

-- zone by zone, and permit by permit
pub more_zones : (s : Site) (v : Views) (q : Permit) (z : ℕ) → ((y : ℕ) → y < z → NoneHiddenAt s v q y) → NoneHiddenAt s v q z → (y : ℕ) → y < z + 1 → NoneHiddenAt s v q y
more_zones s v q z so_far here y h =
    ⊎_elim (λ (lt : y < z). so_far y lt) (λ (ge : z ≤ y). let e : z ≡ y = omega (arith, h, ge) in subst (NoneHiddenAt s v q) e here) (cases_lt y z)

pub more_permits : (s : Site) (v : Views) (permits : List Permit) (k : ℕ) (q : Permit) → permit_at permits k ≡ q → ((i : ℕ) → i < k → IsSeenThroughout s v (permit_at permits i)) → IsSeenThroughout s v q →
    (i : ℕ) → i < k + 1 → IsSeenThroughout s v (permit_at permits i)
more_permits s v permits k q is so_far here i h =
    ⊎_elim (λ (lt : i < k). so_far i lt)
    (λ (ge : k ≤ i). let e : k ≡ i = omega (arith, h, ge) in subst (λ (n : ℕ). IsSeenThroughout s v (permit_at permits n)) e (subst (IsSeenThroughout s v) (sym is) here)) (cases_lt i k)

-- ---- networks that no tag hides

shown_by : (view : List ℕ) (own : Cidr) (nats : List (ℕ × Option Cidr)) → list_any (λ nat. is_none nat.1) nats ≡ false → is_none (unwrap_or (option_map (λ nat. nat.1) (find (λ nat. has view nat.0) nats)) (Some own)) ≡ false
shown_by view own [] none = refl
shown_by view own (nat ∷ nats) none = go (has view nat.0) (neither (is_none nat.1) (list_any (λ x. is_none x.1) nats) none) (shown_by view own nats (neither_later (is_none nat.1) (list_any (λ x. is_none x.1) nats) none))
  where
    neither : (a b : Bool) → (a || b) ≡ false → a ≡ false
    neither true b h = h
    neither false b h = refl

    neither_later : (a b : Bool) → (a || b) ≡ false → b ≡ false
    neither_later true b h = absurd (false≢true (sym h))
    neither_later false b h = h

    go : (b : Bool) → is_none nat.1 ≡ false → is_none (unwrap_or (option_map (λ x. x.1) (find (λ x. has view x.0) nats)) (Some own)) ≡ false →
        is_none (unwrap_or (option_map (λ x. x.1) (cond b (Some nat) (find (λ x. has view x.0) nats))) (Some own)) ≡ false
    go true here later = here
    go false here later = later

-- translations in memory
pub hides_seen : (nats : List (TagId × Option Prefix)) →
    list_any (λ (nat : ℕ × Option Cidr). is_none nat.1) (map (λ (nat : TagId × Option Prefix). (nat.0.0, option_map cidr_of nat.1)) nats) ≡ list_any (λ (nat : TagId × Option Prefix). is_none nat.1) nats
hides_seen [] = refl
hides_seen (nat ∷ nats) = ap (λ (b : Bool). is_none (option_map cidr_of nat.1) || b) (hides_seen nats) ∙ ap (λ (b : Bool). b || list_any (λ (x : TagId × Option Prefix). is_none x.1) nats) (same nat.1)
  where
    same : (o : Option Prefix) → is_none (option_map cidr_of o) ≡ is_none o
    same None = refl
    same (Some q) = refl

pub never_hidden : (p : Policy) (n : ℕ) (view : List ℕ) → list_any (λ nat. is_none nat.1) (net_of p n).nats ≡ false → is_none (prefix_in p view n) ≡ false
never_hidden p n view none = shown_by view (net_of p n).own (net_of p n).nats none

-- a permit between two such
pub seen_throughout : (s : Site) (v : Views) (q : Permit) → list_any (λ nat. is_none nat.1) (net_of s.policy q.src.net).nats ≡ false → list_any (λ nat. is_none nat.1) (net_of s.policy q.dst.net).nats ≡ false →
    IsSeenThroughout s v q
seen_throughout s v q src dst z below = none_seen s v q z each
  where
    each : (b : Bool) → is_none (prefix_in s.policy (zone_view v z) (end_net q b)) ≡ false
    each false = never_hidden s.policy q.src.net (zone_view v z) src
    each true = never_hidden s.policy q.dst.net (zone_view v z) dst
