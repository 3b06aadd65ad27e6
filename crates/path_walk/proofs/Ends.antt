-- The marks by the zone where walks end, as these are found one by one.
use Rattle.std.proofs.Common.{◌≡◌, ◌≢◌, ℕ, zero, suc, ◌<◌, Bool, true, false, cond, List, [], ◌∷◌, ◌++◌, length, get_or, refl, sym, ap, subst, ◌∙◌, arith}
use Rattle.std.specs.Prelude.{◌==◌, Some, None, is_some, unwrap_or}
use Rattle.std.specs.Ordering.{is_eq, nat_cmp}
use Rattle.std.specs.BTreeMap.{BTreeMap}
use Rattle.std.specs.BTreeMap.{get, is_at}
use Rattle.std.specs.Map.{lookup}
use Rattle.std.proofs.lemmas.Bool.Decides.{nat_tests}
use Rattle.std.proofs.lemmas.Bool.{eqb-true, eq-eqb, false≢true, or_left, or_right}
use Rattle.spoc_base.specs.declared.ids.ZoneId.{ZoneId}
use Rattle.policy_model.specs.Lists.{has}
use Rattle.policy_model.specs.Paths.{Crossing}
use Rattle.policy_model.specs.Zones.{Site}
use Rattle.path_walk.specs.Search.{Branch, branches_of}
use Rattle.path_walk.specs.Swept.{IsSwept, numbers_of}
use Rattle.path_walk.specs.Pairs.{with_pairs, crossing_pairs, link_pairs}
use Rattle.path_walk.specs.Tables.{IsNew, AreNew, AreAll, IsGrown, IsAdded}
use Rattle.path_walk.specs.declared.marks.Marks.{Marks}
use Rattle.path_walk.proofs.Marking.{IsMarking, marking_first, marking_swept, marking_done}

pub same_key : (a b : ℕ) → is_eq (nat_cmp a b) ≡ (a == b)
same_key a b = grind (arith, nat_tests)

same_some : {A : Type 0} (x y : A) → Some x ≡ Some y → x ≡ y
same_some x y e = ap (λ o. unwrap_or o x) e

-- what a map has after one key got a value
abbrev pub HasThere : ℕ → Marks → BTreeMap ℕ Marks → BTreeMap ℕ Marks → Type 0
HasThere z x old new = (q : ℕ) → get nat_cmp new q ≡ cond (is_eq (nat_cmp z q)) (Some x) (get nat_cmp old q)

pub none_yet : (from : ℕ) (wanted : List ℕ) (ends : BTreeMap ℕ Marks) → ends.entries ≡ [] → AreNew from wanted ends
none_yet from wanted ends e to m is = absurd (false≢true (ap is_some (sym (ap (λ es. lookup (is_at (nat_cmp to)) es) e) ∙ is)))

pub looked_for : (wanted : List ZoneId) (k : ℕ) (d : ZoneId) → k < length wanted → has (numbers_of wanted) (get_or wanted k d).0 ≡ true
looked_for [] k d below = absurd (omega (arith, below))
looked_for (z ∷ zs) zero d below = or_left (z.0 == z.0) (has (numbers_of zs) z.0) (eq-eqb z.0 z.0 refl)
looked_for (z ∷ zs) (suc k) d below = or_right (z.0 == (get_or zs k d).0) (has (numbers_of zs) (get_or zs k d).0) (looked_for zs k d (omega (arith, below)))

pub inserted : (from : ℕ) (wanted : List ℕ) (old new : BTreeMap ℕ Marks) (z : ℕ) (x : Marks) → AreNew from wanted old → from ≢ z → has wanted z ≡ true → x.crossings.keys ≡ [] → x.links.keys ≡ [] →
    HasThere z x old new → AreNew from wanted new
inserted from wanted old new z x are other w crossings links updates to m is =
    by (z == to) refl (sym (updates to ∙ ap (λ b. cond b (Some x) (get nat_cmp old to)) (same_key z to)) ∙ is)
  where
    by : (t : Bool) → (z == to) ≡ t → cond t (Some x) (get nat_cmp old to) ≡ Some m → IsNew from wanted to m
    by true e h =
        subst (λ (y : Marks). IsNew from wanted to y) (same_some x m h)
        (subst (λ (k : ℕ). IsNew from wanted k x) (eqb-true z to e) (record { crossings = crossings; links = links; elsewhere = other; named = w }))
    by false e h = are to m h

-- a walk was added to the marks of the zone where it ends
pub added_there : (z : ℕ) (path : List Crossing) (old new : BTreeMap ℕ Marks) (before x : Marks) → get nat_cmp old z ≡ Some before → x.crossings.keys ≡ with_pairs before.crossings.keys (crossing_pairs path) →
    x.links.keys ≡ with_pairs before.links.keys (link_pairs path) → HasThere z x old new → IsAdded z path old new
added_there z path old new before x had crossings links updates to m is =
    by (z == to) refl (sym (updates to ∙ ap (λ b. cond b (Some x) (get nat_cmp old to)) (same_key z to)) ∙ is)
  where
    by : (t : Bool) → (z == to) ≡ t → cond t (Some x) (get nat_cmp old to) ≡ Some m → IsGrown z path old to m
    by true e h =
        let same = same_some x m h in
        record {
          before = before;
          had = ap (get nat_cmp old) (sym (eqb-true z to e)) ∙ had;
          crossings = ap (λ (y : Marks). y.crossings.keys) (sym same) ∙ (crossings ∙ sym (ap (λ b. cond b (with_pairs before.crossings.keys (crossing_pairs path)) before.crossings.keys) e));
          links = ap (λ (y : Marks). y.links.keys) (sym same) ∙ (links ∙ sym (ap (λ b. cond b (with_pairs before.links.keys (link_pairs path)) before.links.keys) e));
        }
    by false e h =
        record {
          before = m;
          had = h;
          crossings = sym (ap (λ b. cond b (with_pairs m.crossings.keys (crossing_pairs path)) m.crossings.keys) e);
          links = sym (ap (λ b. cond b (with_pairs m.links.keys (link_pairs path)) m.links.keys) e);
        }

-- or its zone isn't looked for
pub added_nowhere : (z : ℕ) (path : List Crossing) (old new : BTreeMap ℕ Marks) → get nat_cmp old z ≡ None → new.entries ≡ old.entries → IsAdded z path old new
added_nowhere z path old new none same to m is = by (z == to) refl
  where
    had : get nat_cmp old to ≡ Some m
    had = ap (λ es. lookup (is_at (nat_cmp to)) es) (sym same) ∙ is

    by : (t : Bool) → (z == to) ≡ t → IsGrown z path old to m
    by true e = absurd (false≢true (ap is_some (sym none ∙ (ap (get nat_cmp old) (eqb-true z to e) ∙ had))))
    by false e =
        record {
          before = m;
          had = had;
          crossings = sym (ap (λ b. cond b (with_pairs m.crossings.keys (crossing_pairs path)) m.crossings.keys) e);
          links = sym (ap (λ b. cond b (with_pairs m.links.keys (link_pairs path)) m.links.keys) e);
        }

-- ---- in the search

-- the marks of the zone so far, and the walks to it that are still to come, give all
pub record IsFound (s : Site) (from : ℕ) (wanted : List ℕ) (path : List Crossing) (branches : List Branch) (to : ℕ) (m : Marks) : Type 0 where
  pub crossings : IsMarking s from to crossing_pairs [] m.crossings.keys path branches
  pub links : IsMarking s from to link_pairs [] m.links.keys path branches
  pub elsewhere : from ≢ to
  pub named : has wanted to ≡ true

abbrev pub AreFound : Site → ℕ → List ℕ → BTreeMap ℕ Marks → List Crossing → List Branch → Type 0
AreFound s from wanted ends path branches = (to : ℕ) (m : Marks) → get nat_cmp ends to ≡ Some m → IsFound s from wanted path branches to m

pub found_first : (s : Site) (from : ℕ) (wanted : List ℕ) (ends : BTreeMap ℕ Marks) (path : List Crossing) (branches : List Branch) → AreNew from wanted ends → path ≡ [] → branches ≡ branches_of s from [] ++ [] →
    AreFound s from wanted ends path branches
found_first s from wanted ends path branches are e f to m is =
    let new = are to m is in
    record {
      crossings = subst (λ (k : List (ℕ × ℕ)). IsMarking s from to crossing_pairs [] k path branches) (sym new.crossings) (marking_first s from to crossing_pairs [] path branches new.elsewhere e f);
      links = subst (λ (k : List (ℕ × ℕ)). IsMarking s from to link_pairs [] k path branches) (sym new.links) (marking_first s from to link_pairs [] path branches new.elsewhere e f);
      elsewhere = new.elsewhere;
      named = new.named;
    }

pub found_more : (s : Site) (from : ℕ) (wanted : List ℕ) (old ends : BTreeMap ℕ Marks) (path new : List Crossing) (branches new_open : List Branch) (z : ℕ) → AreFound s from wanted old path branches →
    IsSwept s from wanted path branches z new new_open → IsAdded z new old ends → AreFound s from wanted ends new new_open
found_more s from wanted old ends path new branches new_open z found swept added to m is =
    let g = added to m is in
    let f = found to g.before g.had in
    record {
      crossings = marking_swept s from to crossing_pairs wanted [] g.before.crossings.keys m.crossings.keys path new branches new_open z f.crossings swept f.named f.elsewhere g.crossings;
      links = marking_swept s from to link_pairs wanted [] g.before.links.keys m.links.keys path new branches new_open z f.links swept f.named f.elsewhere g.links;
      elsewhere = f.elsewhere;
      named = f.named;
    }

pub found_last : (s : Site) (from : ℕ) (wanted : List ℕ) (ends : BTreeMap ℕ Marks) (path : List Crossing) (branches : List Branch) → AreFound s from wanted ends path branches → branches ≡ [] → AreAll s from ends
found_last s from wanted ends path branches found none to m is =
    let f = found to m is in
    record {
      crossings = marking_done s from to crossing_pairs [] m.crossings.keys path branches f.crossings none;
      links = marking_done s from to link_pairs [] m.links.keys path branches f.links none;
    }
