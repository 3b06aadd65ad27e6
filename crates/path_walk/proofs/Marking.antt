-- Pairs that are put in one by one, those of one walk after the other.
use Rattle.std.proofs.Common.{◌≡◌, ◌≢◌, ℕ, zero, suc, ◌+◌, ◌-◌, ◌<◌, ◌≤◌, Bool, true, false, cond, List, [], ◌∷◌, ◌++◌, length, take, get_or, refl, sym, ap, subst, ◌∙◌, arith}
use Rattle.std.specs.Prelude.{◌==◌, flat_map}
use Rattle.std.proofs.lemmas.List.{map-append, take_more}
use Rattle.std.specs.BTreeSet.{insert_key}
use Rattle.policy_model.specs.Lists.{has}
use Rattle.policy_model.specs.Paths.{Crossing}
use Rattle.policy_model.specs.Zones.{Site}
use Rattle.policy_model.specs.Walks.{allowed_walks}
use Rattle.path_walk.specs.Search.{Branch, AreOpen, branches_of, to_come}
use Rattle.path_walk.specs.Next.{IsNext}
use Rattle.path_walk.specs.Swept.{IsSwept}
use Rattle.path_walk.specs.Pairs.{pair_order, with_pairs, crossing_pairs, links_after, link_pairs}
use Rattle.path_walk.specs.Seen.{step_seen, path_seen}
use Rattle.path_walk.specs.declared.step.Step.{Step}
use Rattle.path_walk.proofs.Starts.{empty_begins, come_at_first, open_at_first}

pub with_more : (keys ps qs : List (ℕ × ℕ)) → with_pairs keys (ps ++ qs) ≡ with_pairs (with_pairs keys ps) qs
with_more keys [] qs = refl
with_more keys (p ∷ ps) qs = with_more (insert_key pair_order keys p) ps qs

-- What is put in so far and the walks that are still to come give all.
pub record IsMarking (s : Site) (from to : ℕ) (pairs : List Crossing → List (ℕ × ℕ)) (old keys : List (ℕ × ℕ)) (path : List Crossing) (branches : List Branch) : Type 0 where
  pub rest : with_pairs keys (flat_map pairs (to_come s from to path branches)) ≡ with_pairs old (flat_map pairs (allowed_walks s from to))

pub marking_first : (s : Site) (from to : ℕ) (pairs : List Crossing → List (ℕ × ℕ)) (keys : List (ℕ × ℕ)) (path : List Crossing) (branches : List Branch) → (from ≢ to) → path ≡ [] → branches ≡ branches_of s from [] ++ [] →
    IsMarking s from to pairs keys keys path branches
marking_first s from to pairs keys path branches other e f =
    subst (λ (q : List Crossing). IsMarking s from to pairs keys keys q branches) (sym e)
    (subst (λ (l : List Branch). IsMarking s from to pairs keys keys [] l) (sym f)
    (record { rest = ap (λ (ws : List (List Crossing)). with_pairs keys (flat_map pairs ws)) (come_at_first s from to other) }))

pub open_first : (s : Site) (from : ℕ) (path : List Crossing) (branches : List Branch) → path ≡ [] → branches ≡ branches_of s from [] ++ [] → AreOpen s from path (length path) branches
open_first s from path branches e f =
    subst (λ (q : List Crossing). AreOpen s from q (length q) branches) (sym e)
    (subst (λ (l : List Branch). AreOpen s from [] 0 l) (sym f) (open_at_first s from [] (empty_begins s from)))

pub marking_more : (s : Site) (from to : ℕ) (pairs : List Crossing → List (ℕ × ℕ)) (old keys more : List (ℕ × ℕ)) (path new : List Crossing) (branches new_open : List Branch) →
    IsMarking s from to pairs old keys path branches → IsNext s from to path branches true new new_open → more ≡ with_pairs keys (pairs new) → IsMarking s from to pairs old more new new_open
marking_more s from to pairs old keys more path new branches new_open m n e =
    let rest = flat_map pairs (to_come s from to new new_open) in
    record {
      rest = ap (λ (l : List (ℕ × ℕ)). with_pairs l rest) e ∙ (sym (with_more keys (pairs new) rest)
          ∙ (sym (ap (λ (ws : List (List Crossing)). with_pairs keys (flat_map pairs ws)) n.walks) ∙ m.rest));
    }

pub marking_last : (s : Site) (from to : ℕ) (pairs : List Crossing → List (ℕ × ℕ)) (old keys : List (ℕ × ℕ)) (path new : List Crossing) (branches new_open : List Branch) →
    IsMarking s from to pairs old keys path branches → IsNext s from to path branches false new new_open → keys ≡ with_pairs old (flat_map pairs (allowed_walks s from to))
marking_last s from to pairs old keys path new branches new_open m n =
    sym (ap (λ (ws : List (List Crossing)). with_pairs keys (flat_map pairs ws)) n.walks) ∙ m.rest

-- the same of a search for the walks to several zones

pub marking_swept : (s : Site) (from to : ℕ) (pairs : List Crossing → List (ℕ × ℕ)) (wanted : List ℕ) (old keys more : List (ℕ × ℕ)) (path new : List Crossing) (branches new_open : List Branch) (z : ℕ) →
    IsMarking s from to pairs old keys path branches → IsSwept s from wanted path branches z new new_open → has wanted to ≡ true → from ≢ to →
    more ≡ cond (z == to) (with_pairs keys (pairs new)) keys → IsMarking s from to pairs old more new new_open
marking_swept s from to pairs wanted old keys more path new branches new_open z m swept w other e = by (z == to) (swept.walks to w other) e
  where
    rest : List (ℕ × ℕ)
    rest = flat_map pairs (to_come s from to new new_open)

    by : (t : Bool) → to_come s from to path branches ≡ cond t (new ∷ []) [] ++ to_come s from to new new_open → more ≡ cond t (with_pairs keys (pairs new)) keys → IsMarking s from to pairs old more new new_open
    by true walks is =
        record {
          rest = ap (λ (l : List (ℕ × ℕ)). with_pairs l rest) is ∙ (sym (with_more keys (pairs new) rest)
              ∙ (sym (ap (λ (ws : List (List Crossing)). with_pairs keys (flat_map pairs ws)) walks) ∙ m.rest));
        }
    by false walks is =
        record { rest = ap (λ (l : List (ℕ × ℕ)). with_pairs l rest) is ∙ (sym (ap (λ (ws : List (List Crossing)). with_pairs keys (flat_map pairs ws)) walks) ∙ m.rest) }

pub marking_done : (s : Site) (from to : ℕ) (pairs : List Crossing → List (ℕ × ℕ)) (old keys : List (ℕ × ℕ)) (path : List Crossing) (branches : List Branch) →
    IsMarking s from to pairs old keys path branches → branches ≡ [] → keys ≡ with_pairs old (flat_map pairs (allowed_walks s from to))
marking_done s from to pairs old keys path branches m e = sym (ap (λ (l : List Branch). with_pairs keys (flat_map pairs (to_come s from to path l))) e) ∙ m.rest

-- where there is no walk
pub marking_none : (s : Site) (from to : ℕ) (pairs : List Crossing → List (ℕ × ℕ)) (keys : List (ℕ × ℕ)) → allowed_walks s from to ≡ [] → keys ≡ with_pairs keys (flat_map pairs (allowed_walks s from to))
marking_none s from to pairs keys e = sym (ap (λ (ws : List (List Crossing)). with_pairs keys (flat_map pairs ws)) e)

-- ---- the pairs of a path, one more at a time

pub with_one_more : (old keys new ps qs : List (ℕ × ℕ)) (p : ℕ × ℕ) → keys ≡ with_pairs old ps → qs ≡ ps ++ p ∷ [] → new ≡ insert_key pair_order keys p → new ≡ with_pairs old qs
with_one_more old keys new ps qs p e f g =
    g ∙ (ap (λ (l : List (ℕ × ℕ)). insert_key pair_order l p) e ∙ (sym (with_more old ps (p ∷ [])) ∙ sym (ap (λ (l : List (ℕ × ℕ)). with_pairs old l) f)))

pub crossing_more : (path : List Step) (k : ℕ) (d : Step) → k < length path →
    crossing_pairs (path_seen (take (k + 1) path)) ≡ crossing_pairs (path_seen (take k path)) ++ ((get_or path k d).enter.0, (get_or path k d).leave.0) ∷ []
crossing_more path k d h =
    ap (λ (l : List Step). crossing_pairs (path_seen l)) (take_more path k d h)
    ∙ (ap crossing_pairs (map-append step_seen (take k path) (get_or path k d ∷ []))
    ∙ map-append (λ (c : Crossing). (c.enter, c.leave)) (path_seen (take k path)) (step_seen (get_or path k d) ∷ []))

after_more : (x : Step) (path : List Step) (k : ℕ) (d : Step) → k < length path →
    links_after (step_seen x) (path_seen (take (suc k) path)) ≡ links_after (step_seen x) (path_seen (take k path)) ++ ((get_or (x ∷ path) k d).leave.0, (get_or path k d).enter.0) ∷ []
after_more x [] k d h = absurd (omega (arith, h))
after_more x (y ∷ ys) zero d h = refl
after_more x (y ∷ ys) (suc k) d h = ap (λ (l : List (ℕ × ℕ)). (x.leave.0, y.enter.0) ∷ l) (after_more y ys k d (omega (arith, h)))

pub link_more : (path : List Step) (k : ℕ) (d : Step) → 1 ≤ k → k < length path →
    link_pairs (path_seen (take (k + 1) path)) ≡ link_pairs (path_seen (take k path)) ++ ((get_or path (k - 1) d).leave.0, (get_or path k d).enter.0) ∷ []
link_more [] k d low h = absurd (omega (arith, h))
link_more (x ∷ xs) zero d low h = absurd (omega (arith, low))
link_more (x ∷ xs) (suc k) d low h =
    let more : suc k + 1 ≡ suc (suc k) = omega arith in
    let less : suc k - 1 ≡ k = omega arith in
    ap (λ (n : ℕ). link_pairs (path_seen (take n (x ∷ xs)))) more
    ∙ (after_more x xs k d (omega (arith, h))
    ∙ ap (λ (n : ℕ). links_after (step_seen x) (path_seen (take k xs)) ++ ((get_or (x ∷ xs) n d).leave.0, (get_or xs k d).enter.0) ∷ []) (sym less))
