-- The zones that have marks, and the tables that are made of them.
use Rattle.std.proofs.Common.{◌≡◌, ◌≢◌, ℕ, ◌+◌, ◌<◌, Bool, true, false, cond, not, ◌&&◌, ◌||◌, List, [], ◌∷◌, ◌++◌, length, get_or, map, take, refl, sym, ap, subst, ◌∙◌}
use Rattle.std.specs.Prelude.{◌==◌, Option, Some, None, is_some}
use Rattle.std.specs.Ordering.{is_eq, nat_cmp}
use Rattle.std.specs.BTreeMap.{BTreeMap}
use Rattle.std.specs.BTreeMap.{get, is_at}
use Rattle.std.specs.Map.{lookup}
use Rattle.std.proofs.lemmas.Bool.{eqb-true, eq-eqb, ne_eqb, not-true}
use Rattle.std.proofs.lemmas.List.{take_more, map-append}
use Rattle.std.proofs.lemmas.List.Folds.{list_any-append}
use Rattle.spoc_base.specs.declared.ids.ZoneId.{ZoneId}
use Rattle.policy_model.specs.Lists.{has}
use Rattle.policy_model.specs.Paths.{Crossing}
use Rattle.policy_model.specs.Zones.{Site}
use Rattle.policy_model.specs.Walks.{allowed_walks}
use Rattle.policy_model.specs.Marks.{Link, marked_crossings, marked_links}
use Rattle.path_walk.specs.Pairs.{with_pairs, all_crossing_pairs, all_link_pairs}
use Rattle.path_walk.specs.Swept.{numbers_of}
use Rattle.path_walk.specs.Tables.{Table, HasEnds, HaveSameEnds, HasAll, AreAll, crossings_in, links_in, table_in, table_between}
use Rattle.path_walk.specs.declared.marks.Marks.{Marks}
use Rattle.path_walk.proofs.Ends.{HasThere, same_key}
use Rattle.path_walk.proofs.Marked.{crossings_told, links_told}
use Rattle.path_walk.proofs.Starts.{no_walks_home}

-- whether a zone gets marks
abbrev gets : ℕ → List ℕ → ℕ → Bool
gets from wanted to = has wanted to && not (from == to)

or_nothing : (a b : Bool) → (a || (b || false)) ≡ (a || b)
or_nothing true b = refl
or_nothing false true = refl
or_nothing false false = refl

has_one_more : (wanted : List ℕ) (z to : ℕ) → has (wanted ++ z ∷ []) to ≡ (has wanted to || (z == to))
has_one_more wanted z to = list_any-append (λ x. x == to) wanted (z ∷ []) ∙ or_nothing (has wanted to) (z == to)

or_true : (a : Bool) → (a || true) ≡ true
or_true true = refl
or_true false = refl

or_false : (a : Bool) → (a || false) ≡ a
or_false true = refl
or_false false = refl

and_false : (a : Bool) → (a && false) ≡ false
and_false true = refl
and_false false = refl

pub no_ends : (from : ℕ) (ends : BTreeMap ℕ Marks) → ends.entries ≡ [] → HasEnds from [] ends
no_ends from ends e to = ap (λ es. is_some (lookup (is_at (nat_cmp to)) es)) e

-- a zone that isn't the first one gets marks
pub ends_more : (from : ℕ) (wanted : List ℕ) (old new : BTreeMap ℕ Marks) (z : ℕ) (x : Marks) → HasEnds from wanted old → from ≢ z → HasThere z x old new → HasEnds from (wanted ++ z ∷ []) new
ends_more from wanted old new z x are other there to =
    ap is_some (there to ∙ ap (λ b. cond b (Some x) (get nat_cmp old to)) (same_key z to)) ∙ (by (z == to) refl ∙ sym (ap (λ b. b && not (from == to)) (has_one_more wanted z to)))
  where
    by : (t : Bool) → (z == to) ≡ t → is_some (cond t (Some x) (get nat_cmp old to)) ≡ ((has wanted to || (z == to)) && not (from == to))
    by true e = sym (ap (λ b. (has wanted to || b) && not (from == to)) e ∙ (ap (λ b. b && not (from == to)) (or_true (has wanted to)) ∙ ap not (ne_eqb from to (λ same. other (same ∙ sym (eqb-true z to e))))))
    by false e = are to ∙ sym (ap (λ b. (has wanted to || b) && not (from == to)) e ∙ ap (λ b. b && not (from == to)) (or_false (has wanted to)))

-- the first one doesn't
pub ends_same : (from : ℕ) (wanted : List ℕ) (ends : BTreeMap ℕ Marks) (z : ℕ) → HasEnds from wanted ends → from ≡ z → HasEnds from (wanted ++ z ∷ []) ends
ends_same from wanted ends z are first to = are to ∙ (by (z == to) refl ∙ sym (ap (λ b. b && not (from == to)) (has_one_more wanted z to)))
  where
    by : (t : Bool) → (z == to) ≡ t → gets from wanted to ≡ ((has wanted to || (z == to)) && not (from == to))
    by true e =
        let home : (from == to) ≡ true = ap (λ n. n == to) first ∙ e in
        ap (λ b. has wanted to && not b) home ∙ (and_false (has wanted to) ∙ sym (ap (λ b. (has wanted to || (z == to)) && not b) home ∙ and_false (has wanted to || (z == to))))
    by false e = sym (ap (λ b. (has wanted to || b) && not (from == to)) e ∙ ap (λ b. b && not (from == to)) (or_false (has wanted to)))

-- the zones looked at so far, and the next
pub one_more : (wanted : List ZoneId) (k : ℕ) (d : ZoneId) → k < length wanted → numbers_of (take (k + 1) wanted) ≡ numbers_of (take k wanted) ++ (get_or wanted k d).0 ∷ []
one_more wanted k d below = ap numbers_of (take_more wanted k d below) ∙ map-append (λ (z : ZoneId). z.0) (take k wanted) (get_or wanted k d ∷ [])

-- ---- a walk is added

pub ends_there : (z : ℕ) (old new : BTreeMap ℕ Marks) (before x : Marks) → get nat_cmp old z ≡ Some before → HasThere z x old new → HaveSameEnds old new
ends_there z old new before x had there to = ap is_some (there to ∙ ap (λ b. cond b (Some x) (get nat_cmp old to)) (same_key z to)) ∙ by (z == to) refl
  where
    by : (t : Bool) → (z == to) ≡ t → is_some (cond t (Some x) (get nat_cmp old to)) ≡ is_some (get nat_cmp old to)
    by true e = sym (ap (λ n. is_some (get nat_cmp old n)) (sym (eqb-true z to e)) ∙ ap is_some had)
    by false e = refl

pub ends_nowhere : (old new : BTreeMap ℕ Marks) → new.entries ≡ old.entries → HaveSameEnds old new
ends_nowhere old new same to = ap (λ es. is_some (lookup (is_at (nat_cmp to)) es)) same

-- ---- the tables

pub table_told : (s : Site) (from : ℕ) (wanted : List ℕ) (ends : BTreeMap ℕ Marks) (z : ZoneId) → HasEnds from wanted ends → AreAll s from ends → has wanted z.0 ≡ true → table_in ends from z.0 ≡ table_between s from z
table_told s from wanted ends z keys all named =
    let told = by (get nat_cmp ends z.0) refl in
    ap (λ (cs : List Crossing). record { from = from; to = z.0; crossings = cs; links = links_in (get nat_cmp ends z.0) }) told.0
    ∙ ap (λ (ls : List Link). record { from = from; to = z.0; crossings = marked_crossings s from z.0; links = ls }) told.1
  where
    by : (o : Option Marks) → get nat_cmp ends z.0 ≡ o → (crossings_in (get nat_cmp ends z.0) ≡ marked_crossings s from z.0) × (links_in (get nat_cmp ends z.0) ≡ marked_links s from z.0)
    by (Some m) e =
        let has_all = all z.0 m e in
        (ap crossings_in e ∙ crossings_told s from z.0 [] m.crossings.keys refl has_all.crossings, ap links_in e ∙ links_told s from z.0 [] m.links.keys refl has_all.links)
    by None e =
        let none : false ≡ (true && not (from == z.0)) = sym (ap is_some e) ∙ (keys z.0 ∙ ap (λ b. b && not (from == z.0)) named) in
        let home = no_walks_home s from z.0 (eqb-true from z.0 (not_none (from == z.0) none)) in (
          ap crossings_in e ∙ crossings_told s from z.0 [] [] refl (sym (ap (λ ws. with_pairs [] (all_crossing_pairs ws)) home)),
          ap links_in e ∙ links_told s from z.0 [] [] refl (sym (ap (λ ws. with_pairs [] (all_link_pairs ws)) home)),
        )
      where
        not_none : (b : Bool) → false ≡ not b → b ≡ true
        not_none true h = refl
        not_none false h = h
