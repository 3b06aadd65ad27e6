-- What a search tells that stands at a path already.
use Rattle.std.proofs.Common.{◌≡◌, ◌≢◌, ℕ, ◌-◌, Bool, true, false, not, List, [], ◌++◌, length, map, sym, ap, subst, ◌∙◌}
use Rattle.std.specs.List.{list_any}
use Rattle.std.proofs.lemmas.List.{append-nil}
use Rattle.policy_model.specs.Lists.{is_nothing}
use Rattle.policy_model.specs.Policy.{router_at}
use Rattle.policy_model.specs.Paths.{Crossing, is_start_of}
use Rattle.policy_model.specs.Zones.{Site}
use Rattle.policy_model.specs.Walks.{is_allowed_walk, allowed_walks}
use Rattle.policy_model.specs.Delivery.{goes_into}
use Rattle.policy_model.proofs.AllWalks.{some_walk}
use Rattle.topology.specs.Kept.{ifaces_of}
use Rattle.path_walk.specs.Search.{Branch, AreOpen, branches_of, branches_at, by_door, to_come, end_of, may_begin, walks_into, most_of, step_of}
use Rattle.path_walk.specs.Next.{IsNext}
use Rattle.path_walk.proofs.Fronts.{refused, walk_stops}
use Rattle.path_walk.proofs.Tree.{length_within, arrived}
use Rattle.path_walk.proofs.Open.{come_by, open_more}
use Rattle.path_walk.proofs.Going.{zones_differ}
use Rattle.path_walk.proofs.Starts.{come_from, open_at_first}
use Rattle.path_walk.proofs.Prefixes.{begin_is, extension_is, entry_of}

-- whether there is a next walk
pub next_tells : (s : Site) (from to : ℕ) (old : List Crossing) (old_open : List Branch) (found : Bool) (new : List Crossing) (new_open : List Branch) → IsNext s from to old old_open found new new_open →
    found ≡ not (is_nothing (to_come s from to old old_open))
next_tells s from to old old_open true new new_open n = sym (ap (λ (l : List (List Crossing)). not (is_nothing l)) n.walks)
next_tells s from to old old_open false new new_open n = sym (ap (λ (l : List (List Crossing)). not (is_nothing l)) n.walks)

-- ---- walks that begin with the path

pub there_already : (s : Site) (from to : ℕ) (path : List Crossing) → (from ≢ to) → may_begin s from path ≡ true → end_of s from path ≡ to → true ≡ list_any (is_start_of path) (allowed_walks s from to)
there_already s from to path other h e =
    sym (begin_is s from to path ∙ ap (λ (l : List (List Crossing)). not (is_nothing l)) (arrived s from to (most_of s - length path) path (zones_differ from to other) h e))

pub found_on : (s : Site) (from to : ℕ) (path at : List Crossing) (branches : List Branch) (found : Bool) (new : List Crossing) (new_open : List Branch) → may_begin s from path ≡ true → (end_of s from path ≡ to → ⊥) →
    at ≡ path → branches ≡ branches_of s from path ++ [] → IsNext s from to at branches found new new_open → found ≡ list_any (is_start_of path) (allowed_walks s from to)
found_on s from to path at branches found new new_open h away e f n =
    let some = λ (l : List (List Crossing)). not (is_nothing l) in
    next_tells s from to at branches found new new_open n
    ∙ (ap (λ (q : List Crossing). some (to_come s from to q branches)) e
    ∙ (ap (λ (l : List Branch). some (to_come s from to path l)) f
    ∙ (ap some (come_from s from to path h away (length_within s from path h))
    ∙ sym (begin_is s from to path))))

pub open_on : (s : Site) (from : ℕ) (path at : List Crossing) (branches : List Branch) → may_begin s from path ≡ true → at ≡ path → branches ≡ branches_of s from path ++ [] → AreOpen s from at (length at) branches
open_on s from path at branches h e f =
    subst (λ (q : List Crossing). AreOpen s from q (length q) branches) (sym e)
    (subst (λ (l : List Branch). AreOpen s from path (length path) l) (sym f) (open_at_first s from path h))

-- ---- walks that then enter at an interface

pub none_beyond_end : (s : Site) (from to : ℕ) (path : List Crossing) (i : ℕ) → end_of s from path ≡ to → false ≡ list_any (goes_into path i) (allowed_walks s from to)
none_beyond_end s from to path i e =
    sym (refused (list_any (goes_into path i) (allowed_walks s from to)) (λ h.
    let w = (some_walk s from to (goes_into path i)).0 h in
    let r = entry_of path w.0 i w.2 in
    walk_stops s from to path (step_of i r.0) r.1 e (subst (λ l. is_allowed_walk s from to l ≡ true) r.2 w.1)))

pub found_into : (s : Site) (from to : ℕ) (path at : List Crossing) (i : ℕ) (branches : List Branch) (found : Bool) (new : List Crossing) (new_open : List Branch) → may_begin s from path ≡ true →
    at ≡ path → branches ≡ branches_at s from path i ++ [] → IsNext s from to at branches found new new_open → found ≡ list_any (goes_into path i) (allowed_walks s from to)
found_into s from to path at i branches found new new_open h e f n =
    let some = λ (l : List (List Crossing)). not (is_nothing l) in
    next_tells s from to at branches found new new_open n
    ∙ (ap (λ (q : List Crossing). some (to_come s from to q branches)) e
    ∙ (ap (λ (l : List Branch). some (to_come s from to path l)) f
    ∙ (ap some (come_by s from to path [] (by_door s from path i) ∙ append-nil (walks_into s from to path i))
    ∙ sym (extension_is s from to path i h))))

pub open_into : (s : Site) (from : ℕ) (path at : List Crossing) (i : ℕ) (branches : List Branch) → may_begin s from path ≡ true → at ≡ path → branches ≡ branches_at s from path i ++ [] → AreOpen s from at (length at) branches
open_into s from path at i branches h e f =
    subst (λ (q : List Crossing). AreOpen s from q (length q) branches) (sym e)
    (subst (λ (l : List Branch). AreOpen s from path (length path) l) (sym f) (open_more s from path [] (map (step_of i) (ifaces_of s.policy (router_at s.policy i))) h tt))
