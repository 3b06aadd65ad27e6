-- A list of the first walks of a search.
use Rattle.std.proofs.Common.{◌≡◌, ◌≢◌, ℕ, ◌<◌, ◌≤◌, true, false, List, [], ◌∷◌, ◌++◌, length, take, sym, ap, subst, ◌∙◌, arith}
use Rattle.std.specs.Prelude.{nat_lt}
use Rattle.std.proofs.lemmas.List.{append-nil, append_assoc, length-append, take_all, take_at}
use Rattle.std.proofs.lemmas.Bool.{lt-ltb, le-ltb}
use Rattle.policy_model.specs.Paths.{Crossing}
use Rattle.policy_model.specs.Zones.{Site}
use Rattle.policy_model.specs.Walks.{allowed_walks}
use Rattle.path_walk.specs.Search.{Branch, AreOpen, branches_of, to_come}
use Rattle.path_walk.specs.Next.{IsNext}
use Rattle.path_walk.proofs.Starts.{empty_begins, come_at_first, open_at_first}

-- The walks so far, and then those to come, are all.
pub record IsListed (s : Site) (from to : ℕ) (walks : List (List Crossing)) (path : List Crossing) (branches : List Branch) : Type 0 where
  pub kept : AreOpen s from path (length path) branches
  pub all : allowed_walks s from to ≡ walks ++ to_come s from to path branches

-- one more
pub listed_more : (s : Site) (from to : ℕ) (walks : List (List Crossing)) (path new : List Crossing) (branches new_open : List Branch) → IsListed s from to walks path branches →
    IsNext s from to path branches true new new_open → IsListed s from to (walks ++ new ∷ []) new new_open
listed_more s from to walks path new branches new_open l n =
    record { kept = n.kept; all = l.all ∙ (ap (λ w. walks ++ w) n.walks ∙ sym (append_assoc walks (new ∷ []) (to_come s from to new new_open))) }

-- fewer to come
pub fewer_to_come : (s : Site) (from to : ℕ) (path new : List Crossing) (branches new_open : List Branch) → IsNext s from to path branches true new new_open →
    length (to_come s from to new new_open) < length (to_come s from to path branches)
fewer_to_come s from to path new branches new_open n = omega (arith, ap length n.walks)

-- as many as were asked for, and one more
pub listed_full : (s : Site) (from to most : ℕ) (walks : List (List Crossing)) (path new : List Crossing) (branches new_open : List Branch) → IsListed s from to walks path branches →
    IsNext s from to path branches true new new_open → length walks ≡ most → (walks ≡ take most (allowed_walks s from to)) × (true ≡ nat_lt most (length (allowed_walks s from to)))
listed_full s from to most walks path new branches new_open l n e =
    let all = l.all ∙ ap (λ w. walks ++ w) n.walks in
    let long = ap length all ∙ length-append walks (new ∷ to_come s from to new new_open) in
    (sym (ap (take most) all ∙ take_at walks (new ∷ to_come s from to new new_open) most e), sym (lt-ltb most (length (allowed_walks s from to)) (omega (arith, long, e))))

-- all of them
pub listed_all : (s : Site) (from to most : ℕ) (walks : List (List Crossing)) (path new : List Crossing) (branches new_open : List Branch) → IsListed s from to walks path branches →
    IsNext s from to path branches false new new_open → length walks ≤ most → (walks ≡ take most (allowed_walks s from to)) × (false ≡ nat_lt most (length (allowed_walks s from to)))
listed_all s from to most walks path new branches new_open l n few =
    let all = l.all ∙ (ap (λ w. walks ++ w) n.walks ∙ append-nil walks) in
    (sym (take_all most (allowed_walks s from to) (omega (arith, ap length all, few)) ∙ all), sym (le-ltb most (length (allowed_walks s from to)) (omega (arith, ap length all, few))))

-- none yet, and all to come
pub listed_first : (s : Site) (from to : ℕ) (walks : List (List Crossing)) (path : List Crossing) (branches : List Branch) → (from ≢ to) → walks ≡ [] → path ≡ [] → branches ≡ branches_of s from [] ++ [] →
    IsListed s from to walks path branches
listed_first s from to walks path branches other none e f =
    subst (λ w. IsListed s from to w path branches) (sym none)
    (subst (λ (q : List Crossing). IsListed s from to [] q branches) (sym e)
    (subst (λ (l : List Branch). IsListed s from to [] [] l) (sym f) (record { kept = open_at_first s from [] (empty_begins s from); all = sym (come_at_first s from to other) })))

-- where there is no walk
pub listed_none : (s : Site) (from to most : ℕ) (walks : List (List Crossing)) → walks ≡ [] → allowed_walks s from to ≡ [] →
    (walks ≡ take most (allowed_walks s from to)) × (false ≡ nat_lt most (length (allowed_walks s from to)))
listed_none s from to most walks e f =
    (e ∙ sym (take_all most (allowed_walks s from to) (omega (arith, ap length f)) ∙ f), sym (le-ltb most (length (allowed_walks s from to)) (omega (arith, ap length f))))
