-- Where a search starts, and what it finds then.
use Rattle.std.proofs.Common.{◌≡◌, ℕ, ◌+◌, ◌-◌, ◌≤◌, true, false, not, ◌&&◌, List, [], ◌∷◌, ◌++◌, length, refl, sym, ap, ◌∙◌, arith}
use Rattle.std.specs.Prelude.{◌==◌, filter, flat_map}
use Rattle.std.specs.List.{list_any, list_all}
use Rattle.std.proofs.lemmas.List.{append-nil, map-id}
use Rattle.std.proofs.lemmas.Bool.{and_from, and_right, eq-eqb, not_from_false}
use Rattle.policy_model.specs.Paths.{Crossing}
use Rattle.policy_model.specs.Zones.{Site}
use Rattle.policy_model.specs.Walks.{has_two_of, restricted_sets, is_allowed_walk, all_crossings, all_paths, allowed_walks}
use Rattle.path_walk.specs.Search.{AreOpen, branches_of, to_come, end_of, may_begin, goes_on, walks_on, most_of}
use Rattle.path_walk.proofs.Fronts.{begins_by, any_none}
use Rattle.path_walk.proofs.Tree.{onward_by_doors, none_home}
use Rattle.path_walk.proofs.Open.{come_of, open_all_of}

-- no two interfaces are on the empty path
none_on : (members : List ℕ) → has_two_of members [] ≡ false
none_on members =
    any_none (λ i. list_any (λ j. not (i == j) && false && false) members) members
    (λ i. any_none (λ j. not (i == j) && false && false) members (λ j. and_right (not (i == j) && false) false refl))

empty_unrestricted : (sets : List (List ℕ)) → list_all (λ members. not (has_two_of members [])) sets ≡ true
empty_unrestricted [] = refl
empty_unrestricted (members ∷ sets) = and_from (not (has_two_of members [])) (list_all (λ ms. not (has_two_of ms [])) sets) (not_from_false (has_two_of members []) (none_on members)) (empty_unrestricted sets)

-- a walk may begin with the empty path
pub empty_begins : (s : Site) (from : ℕ) → may_begin s from [] ≡ true
empty_begins s from =
    begins_by s from [] (record { crossings = refl; ends = eq-eqb from from refl; zones_once = refl; routers_once = refl; unrestricted = empty_unrestricted (restricted_sets s.policy) })

all_from_empty : (s : Site) (from to : ℕ) → walks_on s from to (most_of s) [] ≡ allowed_walks s from to
all_from_empty s from to = ap (λ l. filter (is_allowed_walk s from to) l) (map-id (all_paths s))

-- the branches of a path from which walks lead on
pub come_from : (s : Site) (from to : ℕ) (path : List Crossing) → may_begin s from path ≡ true → (end_of s from path ≡ to → ⊥) → length path ≤ most_of s →
    to_come s from to path (branches_of s from path ++ []) ≡ walks_on s from to (most_of s - length path) path
come_from s from to path h away short =
    let n : most_of s - (length path + 1) ≡ most_of s - length path - 1 = omega arith in
    let cs = filter (goes_on s from path) (all_crossings s) in
    come_of s from to path [] ∙ (append-nil (flat_map (λ c. walks_on s from to (most_of s - (length path + 1)) (path ++ c ∷ [])) cs)
    ∙ (ap (λ (k : ℕ). flat_map (λ c. walks_on s from to k (path ++ c ∷ [])) cs) n
    ∙ sym (onward_by_doors s from to (most_of s - length path) path h away (omega (arith, short)))))

-- the branches of the empty path have all walks
pub come_at_first : (s : Site) (from to : ℕ) → (from ≡ to → ⊥) → to_come s from to [] (branches_of s from [] ++ []) ≡ allowed_walks s from to
come_at_first s from to other =
    come_from s from to [] (empty_begins s from) other (omega arith) ∙ (ap (λ (k : ℕ). walks_on s from to k []) (less_none (most_of s)) ∙ all_from_empty s from to)
  where
    less_none : (n : ℕ) → n - 0 ≡ n
    less_none n = omega arith

pub open_at_first : (s : Site) (from : ℕ) (path : List Crossing) → may_begin s from path ≡ true → AreOpen s from path (length path) (branches_of s from path ++ [])
open_at_first s from path h = open_all_of s from path [] h tt

-- from a zone to itself there is no walk
pub no_walks_home : (s : Site) (from to : ℕ) → from ≡ to → allowed_walks s from to ≡ []
no_walks_home s from to e = sym (all_from_empty s from to) ∙ none_home s from to (most_of s) [] e
