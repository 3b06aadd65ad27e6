-- Crossings that a search goes along, one by one.
use Rattle.std.proofs.Common.{◌≡◌, ℕ, ◌+◌, ◌<◌, ◌≤◌, Bool, true, false, List, [], ◌∷◌, ◌++◌, length, map, take, drop, get_or, sym, ap, subst, ◌∙◌}
use Rattle.std.specs.Prelude.{if◌then◌else◌}
use Rattle.std.proofs.lemmas.Bool.{false≢true}
use Rattle.std.proofs.lemmas.List.{map-append, map_more, take-append-drop, take_all}
use Rattle.policy_model.specs.Paths as plain
use Rattle.policy_model.specs.Zones.{Site}
use Rattle.zone_graph.specs.declared.marks.Crossing.{Crossing}
use Rattle.path_walk.specs.Seen.{crossing_seen}
use Rattle.path_walk.specs.Search.{may_begin, goes_on}
use Rattle.path_walk.proofs.Fronts.{refused, front_begins, goes_on_is}

-- The search has gone along the first k crossings.
pub record IsAlong (s : Site) (from : ℕ) (all : List Crossing) (k : ℕ) (path : List plain.Crossing) : Type 0 where
  pub path_is : path ≡ map crossing_seen (take k all)
  pub begun : may_begin s from (map crossing_seen (take k all)) ≡ true

-- whether it may go on by the next one
next_may : (s : Site) (from : ℕ) (all : List Crossing) (k : ℕ) (d : Crossing) (path : List plain.Crossing) (x : plain.Crossing) (may : Bool) → k < length all → IsAlong s from all k path →
    x ≡ crossing_seen (get_or all k d) → may ≡ goes_on s from path x → may ≡ may_begin s from (map crossing_seen (take (k + 1) all))
next_may s from all k d path x may h along e f =
    let c = crossing_seen (get_or all k d) in
    f ∙ (ap (λ (q : List plain.Crossing). goes_on s from q x) along.path_is
    ∙ (ap (λ (y : plain.Crossing). goes_on s from (map crossing_seen (take k all)) y) e
    ∙ (goes_on_is s from (map crossing_seen (take k all)) c along.begun
    ∙ sym (ap (λ (q : List plain.Crossing). may_begin s from q) (map_more crossing_seen all k d h)))))

pub along_more : (s : Site) (from : ℕ) (all : List Crossing) (k : ℕ) (d : Crossing) (path new : List plain.Crossing) (x : plain.Crossing) (may : Bool) → k < length all → IsAlong s from all k path →
    x ≡ crossing_seen (get_or all k d) → may ≡ goes_on s from path x → new ≡ (if may then path ++ x ∷ [] else path) → may ≡ true → IsAlong s from all (k + 1) new
along_more s from all k d path new x may h along e f g is =
    let c = crossing_seen (get_or all k d) in
    record {
      path_is = g ∙ (ap (λ (b : Bool). if b then path ++ x ∷ [] else path) is
          ∙ (ap (λ (q : List plain.Crossing). q ++ x ∷ []) along.path_is
          ∙ (ap (λ (y : plain.Crossing). map crossing_seen (take k all) ++ y ∷ []) e
          ∙ sym (map_more crossing_seen all k d h))));
      begun = sym (next_may s from all k d path x may h along e f) ∙ is;
    }

-- a beginning with which no walk begins
pub along_no_more : (s : Site) (from : ℕ) (all : List Crossing) (k : ℕ) (d : Crossing) (path : List plain.Crossing) (x : plain.Crossing) (may : Bool) → k < length all → IsAlong s from all k path →
    x ≡ crossing_seen (get_or all k d) → may ≡ goes_on s from path x → may ≡ false → false ≡ may_begin s from (map crossing_seen all)
along_no_more s from all k d path x may h along e f is =
    let split : map crossing_seen all ≡ map crossing_seen (take (k + 1) all) ++ map crossing_seen (drop (k + 1) all) =
    sym (ap (λ (l : List Crossing). map crossing_seen l) (take-append-drop (k + 1) all)) ∙ map-append crossing_seen (take (k + 1) all) (drop (k + 1) all) in
    sym (refused (may_begin s from (map crossing_seen all)) (λ g.
    false≢true (sym is ∙ (next_may s from all k d path x may h along e f
    ∙ front_begins s from (map crossing_seen (take (k + 1) all)) (map crossing_seen (drop (k + 1) all)) (subst (λ (q : List plain.Crossing). may_begin s from q ≡ true) split g)))))

-- all of them
pub along_whole : (s : Site) (from : ℕ) (all : List Crossing) (k : ℕ) (path : List plain.Crossing) → length all ≤ k → IsAlong s from all k path →
    (path ≡ map crossing_seen all) × (true ≡ may_begin s from (map crossing_seen all))
along_whole s from all k path h along =
    let whole = ap (λ (l : List Crossing). map crossing_seen l) (take_all k all h) in
    (along.path_is ∙ whole, sym (sym (ap (λ (q : List plain.Crossing). may_begin s from q) whole) ∙ along.begun))
