-- A search by branches: what one step does to the walks that are still to be found.
use Rattle.std.proofs.Common.{◌≡◌, ◌≢◌, ℕ, zero, suc, ◌+◌, ◌-◌, ◌*◌, ◌<◌, ◌≤◌, Bool, true, false, not, cond, List, [], ◌∷◌, ◌++◌, length, map, take, refl, sym, ap, subst, ◌∙◌, ⊎_elim, arith}
use Rattle.std.specs.Prelude.{◌==◌, filter, flat_map}
use Rattle.std.proofs.lemmas.List.{length-append, length-take-le, take_all, take-take, take-append-le}
use Rattle.std.proofs.lemmas.List.Concat.{flat_map-append}
use Rattle.std.proofs.lemmas.List.Folds.{flat_map-map}
use Rattle.std.proofs.lemmas.List.Sums.{length-filter, count_by-le-length}
use Rattle.std.proofs.lemmas.Nat.{mul-le}
use Rattle.std.proofs.lemmas.Bool.{eqb-true, eq-eqb, false≢true, not_from_false}
use Rattle.policy_model.specs.Lists.{has}
use Rattle.policy_model.specs.Paths.{Crossing}
use Rattle.policy_model.specs.Zones.{Site, zone_at}
use Rattle.policy_model.specs.Walks.{all_crossings}
use Rattle.path_walk.specs.Search.{Branch, AreOpen, branched, branches_of, to_come, end_of, may_begin, goes_on, walks_on, most_of, size, weight}
use Rattle.path_walk.specs.Next.{IsNext}
use Rattle.path_walk.specs.Shut.{LeadsNowhere, LeadsToNone, AreOpened}
use Rattle.path_walk.specs.Swept.{IsSwept}
use Rattle.path_walk.proofs.Fronts.{refused, end_more, goes_on_is}
use Rattle.path_walk.proofs.Rows.{flat_map_none}
use Rattle.path_walk.proofs.Tree.{length_within, arrived, none_past, onward_by_doors}

-- ---- how much is left to search

some_size : (x n : ℕ) → 0 < size x n
some_size x zero = omega arith
some_size x (suc n) = omega arith

weight_more : (m x k : ℕ) (crossings : List Crossing) (branches : List Branch) →
    weight m x (map (λ c. record { depth = k; crossing = c }) crossings ++ branches) ≡ length crossings * size x (m - k) + weight m x branches
weight_more m x k [] branches = omega arith
weight_more m x k (c ∷ crossings) branches =
    let ih = weight_more m x k crossings branches in
    let one : (length crossings + 1) * size x (m - k) ≡ length crossings * size x (m - k) + size x (m - k) = one_more (length crossings) (size x (m - k)) in
    omega (arith, ih, one)
  where
    one_more : (a b : ℕ) → (a + 1) * b ≡ a * b + b
    one_more a b = grind arith

less_left : (m x d n : ℕ) → d < m → n ≤ x → n * size x (m - (d + 1)) < size x (m - d)
less_left m x d n below few =
    let e : m - d ≡ suc (m - (d + 1)) = omega (arith, below) in
    let most = mul-le n (size x (m - (d + 1))) x (size x (m - (d + 1))) few (omega arith) in
    subst (λ (k : ℕ). n * size x (m - (d + 1)) < size x k) (sym e) (omega (arith, most))

-- ---- paths that share a beginning

same_branched : (path : List Crossing) (d : ℕ) (c : Crossing) (b : Branch) → d ≤ length path → b.depth ≤ d → branched (take d path ++ c ∷ []) b ≡ branched path b
same_branched path d c b short deep =
    let fits : b.depth ≤ length (take d path) = omega (arith, deep, length-take-le d path short) in
    ap (λ (l : List Crossing). l ++ b.crossing ∷ []) (take-append-le b.depth (take d path) (c ∷ []) fits ∙ take-take b.depth d path deep)

kept_open : (s : Site) (from : ℕ) (path : List Crossing) (d : ℕ) (c : Crossing) (limit : ℕ) (branches : List Branch) → d ≤ length path → limit ≤ d →
    AreOpen s from path limit branches → AreOpen s from (take d path ++ c ∷ []) limit branches
kept_open s from path d c limit [] short low h = tt
kept_open s from path d c limit (b ∷ branches) short low h =
    let deep : b.depth ≤ d = omega (arith, h.0, low) in
    (h.0, ap (may_begin s from) (same_branched path d c b short deep) ∙ h.1, kept_open s from path d c b.depth branches short deep h.2)

same_to_come : (s : Site) (from to : ℕ) (path : List Crossing) (d : ℕ) (c : Crossing) (limit : ℕ) (branches : List Branch) → d ≤ length path → limit ≤ d →
    AreOpen s from path limit branches → to_come s from to (take d path ++ c ∷ []) branches ≡ to_come s from to path branches
same_to_come s from to path d c limit [] short low h = refl
same_to_come s from to path d c limit (b ∷ branches) short low h =
    let deep : b.depth ≤ d = omega (arith, h.0, low) in
    ap (λ (q : List Crossing). walks_on s from to (most_of s - (b.depth + 1)) q ++ to_come s from to (take d path ++ c ∷ []) branches) (same_branched path d c b short deep)
    ∙ ap (λ l. walks_on s from to (most_of s - (b.depth + 1)) (branched path b) ++ l) (same_to_come s from to path d c b.depth branches short deep h.2)

wider : (s : Site) (from : ℕ) (path : List Crossing) (limit more : ℕ) (branches : List Branch) → limit ≤ more → AreOpen s from path limit branches → AreOpen s from path more branches
wider s from path limit more [] low h = tt
wider s from path limit more (b ∷ branches) low h = (omega (arith, h.0, low), h.1, h.2)

-- ---- branches that are opened

whole_branched : (path : List Crossing) (c : Crossing) → branched path (record { depth = length path; crossing = c }) ≡ path ++ c ∷ []
whole_branched path c = ap (λ (l : List Crossing). l ++ c ∷ []) (take_all (length path) path (omega arith))

pub open_more : (s : Site) (from : ℕ) (path : List Crossing) (branches : List Branch) (xs : List Crossing) → may_begin s from path ≡ true → AreOpen s from path (length path) branches →
    AreOpen s from path (length path) (map (λ c. record { depth = length path; crossing = c }) (filter (goes_on s from path) xs) ++ branches)
open_more s from path branches [] h open_now = open_now
open_more s from path branches (x ∷ xs) h open_now = step (open_more s from path branches xs h open_now) (goes_on s from path x) refl
  where
    step : AreOpen s from path (length path) (map (λ c. record { depth = length path; crossing = c }) (filter (goes_on s from path) xs) ++ branches) → (t : Bool) → goes_on s from path x ≡ t →
        AreOpen s from path (length path) (map (λ c. record { depth = length path; crossing = c }) (cond t (x ∷ filter (goes_on s from path) xs) (filter (goes_on s from path) xs)) ++ branches)
    step later true e = (omega arith, ap (may_begin s from) (whole_branched path x) ∙ (sym (goes_on_is s from path x h) ∙ e), later)
    step later false e = later

-- the branches by some crossings have the walks that go on by these
pub come_by : (s : Site) (from to : ℕ) (path : List Crossing) (branches : List Branch) (cs : List Crossing) →
    to_come s from to path (map (λ c. record { depth = length path; crossing = c }) cs ++ branches)
    ≡ flat_map (λ c. walks_on s from to (most_of s - (length path + 1)) (path ++ c ∷ [])) cs ++ to_come s from to path branches
come_by s from to path branches cs =
    let mk : Crossing → Branch = λ c. record { depth = length path; crossing = c } in
    let f = λ (b : Branch). walks_on s from to (most_of s - (b.depth + 1)) (branched path b) in
    flat_map-append f (map mk cs) branches
    ∙ ap (λ l. l ++ to_come s from to path branches)
    (flat_map-map f mk cs ∙ same cs)
  where
    same : (cs : List Crossing) →
        flat_map (λ c. walks_on s from to (most_of s - (length path + 1)) (branched path (record { depth = length path; crossing = c }))) cs ≡ flat_map (λ c. walks_on s from to (most_of s - (length path + 1)) (path ++ c ∷ [])) cs
    same [] = refl
    same (c ∷ cs) =
        ap (λ (q : List Crossing). walks_on s from to (most_of s - (length path + 1)) q ++ flat_map (λ d. walks_on s from to (most_of s - (length path + 1)) (branched path (record { depth = length path; crossing = d }))) cs) (whole_branched path c)
        ∙ ap (λ l. walks_on s from to (most_of s - (length path + 1)) (path ++ c ∷ []) ++ l) (same cs)

-- the branches of a path have the walks that go on from it
pub come_of : (s : Site) (from to : ℕ) (path : List Crossing) (branches : List Branch) →
    to_come s from to path (branches_of s from path ++ branches)
    ≡ flat_map (λ c. walks_on s from to (most_of s - (length path + 1)) (path ++ c ∷ [])) (filter (goes_on s from path) (all_crossings s)) ++ to_come s from to path branches
come_of s from to path branches = come_by s from to path branches (filter (goes_on s from path) (all_crossings s))

pub open_all_of : (s : Site) (from : ℕ) (path : List Crossing) (branches : List Branch) → may_begin s from path ≡ true → AreOpen s from path (length path) branches →
    AreOpen s from path (length path) (branches_of s from path ++ branches)
open_all_of s from path branches h open_now = open_more s from path branches (all_crossings s) h open_now

-- ---- one step

branched_length : (path : List Crossing) (b : Branch) → b.depth ≤ length path → length (branched path b) ≡ b.depth + 1
branched_length path b short = omega (arith, length-append (take b.depth path) (b.crossing ∷ []), length-take-le b.depth path short)

-- what was open behind a branch stays open once the path has it
closed_kept : (s : Site) (from : ℕ) (path : List Crossing) (b : Branch) (branches : List Branch) → AreOpen s from path (length path) (b ∷ branches) → AreOpen s from (branched path b) (length (branched path b)) branches
closed_kept s from path b branches h =
    let q = branched path b in
    wider s from q b.depth (length q) branches (omega (arith, branched_length path b h.0)) (kept_open s from path b.depth b.crossing b.depth branches h.0 (omega arith) h.2)

closed_to_come : (s : Site) (from to : ℕ) (path : List Crossing) (b : Branch) (branches : List Branch) → AreOpen s from path (length path) (b ∷ branches) →
    to_come s from to (branched path b) branches ≡ to_come s from to path branches
closed_to_come s from to path b branches h = same_to_come s from to path b.depth b.crossing b.depth branches h.0 (omega arith) h.2

-- a branch that leads to the zone
there : (s : Site) (from to : ℕ) (path : List Crossing) (b : Branch) (branches : List Branch) → not (from == to) ≡ true → AreOpen s from path (length path) (b ∷ branches) →
    (zone_at s b.crossing.leave == to) ≡ true → IsNext s from to path (b ∷ branches) true (branched path b) branches
there s from to path b branches other h e =
    let q = branched path b in
    let ends : end_of s from q ≡ to = end_more s from (take b.depth path) b.crossing ∙ eqb-true (zone_at s b.crossing.leave) to e in
    record {
      kept = closed_kept s from path b branches h;
      walks = ap (λ l. l ++ to_come s from to path branches) (arrived s from to (most_of s - (b.depth + 1)) q other h.1 ends)
          ∙ ap (λ l. q ∷ l) (sym (closed_to_come s from to path b branches h));
    }

pub record GoesOnBy (s : Site) (from to : ℕ) (old : List Crossing) (old_open : List Branch) (new : List Crossing) (new_open : List Branch) : Type 0 where
  pub kept : AreOpen s from new (length new) new_open
  pub walks : to_come s from to old old_open ≡ to_come s from to new new_open
  pub less : weight (most_of s) (length (all_crossings s)) new_open < weight (most_of s) (length (all_crossings s)) old_open

-- the search goes on: nothing is lost
pub record IsGoing (s : Site) (from to : ℕ) (old : List Crossing) (old_open : List Branch) (new : List Crossing) (new_open : List Branch) : Type 0 where
  pub kept : AreOpen s from new (length new) new_open
  pub walks : to_come s from to old old_open ≡ to_come s from to new new_open

-- where a branch's own branches are opened

opened_kept : (s : Site) (from : ℕ) (path : List Crossing) (b : Branch) (branches : List Branch) → AreOpen s from path (length path) (b ∷ branches) →
    AreOpen s from (branched path b) (length (branched path b)) (branches_of s from (branched path b) ++ branches)
opened_kept s from path b branches h = open_all_of s from (branched path b) branches h.1 (closed_kept s from path b branches h)

opened_less : (s : Site) (from : ℕ) (path : List Crossing) (b : Branch) (branches : List Branch) → AreOpen s from path (length path) (b ∷ branches) →
    weight (most_of s) (length (all_crossings s)) (branches_of s from (branched path b) ++ branches) < weight (most_of s) (length (all_crossings s)) (b ∷ branches)
opened_less s from path b branches h =
    let q = branched path b in
    let x = length (all_crossings s) in
    let m = most_of s in
    let long = branched_length path b h.0 in
    let within = length_within s from q h.1 in
    let cs = filter (goes_on s from q) (all_crossings s) in
    let few : length cs ≤ x = omega (arith, length-filter (goes_on s from q) (all_crossings s), count_by-le-length (goes_on s from q) (all_crossings s)) in
    let more = weight_more m x (length q) cs branches in
    let k : m - length q ≡ m - (b.depth + 1) = omega (arith, long) in
    let part = subst (λ (j : ℕ). length cs * size x j < size x (m - b.depth)) (sym k) (less_left m x b.depth (length cs) (omega (arith, long, within)) few) in
    omega (arith, more, part)

-- a branch that leads elsewhere
elsewhere : (s : Site) (from to : ℕ) (path : List Crossing) (b : Branch) (branches : List Branch) → AreOpen s from path (length path) (b ∷ branches) →
    (zone_at s b.crossing.leave == to) ≡ false → GoesOnBy s from to path (b ∷ branches) (branched path b) (branches_of s from (branched path b) ++ branches)
elsewhere s from to path b branches h e =
    let q = branched path b in
    let m = most_of s in
    let long = branched_length path b h.0 in
    let within = length_within s from q h.1 in
    let cs = filter (goes_on s from q) (all_crossings s) in
    let away = λ (t : end_of s from q ≡ to). false≢true (sym e ∙ eq-eqb (zone_at s b.crossing.leave) to (sym (end_more s from (take b.depth path) b.crossing) ∙ t)) in
    let n : m - (length q + 1) ≡ m - (b.depth + 1) - 1 = omega (arith, long) in
    record {
      kept = opened_kept s from path b branches h;
      walks = ap (λ l. l ++ to_come s from to path branches) (onward_by_doors s from to (m - (b.depth + 1)) q h.1 away (omega (arith, long, within))
          ∙ ap (λ (k : ℕ). flat_map (λ c. walks_on s from to k (q ++ c ∷ [])) cs) (sym n))
          ∙ (ap (λ l. flat_map (λ c. walks_on s from to (m - (length q + 1)) (q ++ c ∷ [])) cs ++ l) (sym (closed_to_come s from to path b branches h))
          ∙ sym (come_of s from to q branches));
      less = opened_less s from path b branches h;
    }

-- the walks that are still to come behind a path that is there: none by its own branches
past_it : (s : Site) (from to : ℕ) (path : List Crossing) (branches : List Branch) → end_of s from path ≡ to → to_come s from to path (branches_of s from path ++ branches) ≡ to_come s from to path branches
past_it s from to path branches e =
    come_of s from to path branches
    ∙ ap (λ l. l ++ to_come s from to path branches)
    (flat_map_none (λ c. walks_on s from to (most_of s - (length path + 1)) (path ++ c ∷ [])) (filter (goes_on s from path) (all_crossings s)) (λ c. none_past s from to (most_of s - (length path + 1)) path c e))

-- the same, of the values after the step

pub step_there : (s : Site) (from to : ℕ) (path new : List Crossing) (b : Branch) (branches new_open : List Branch) → not (from == to) ≡ true → AreOpen s from path (length path) (b ∷ branches) →
    new ≡ branched path b → (zone_at s b.crossing.leave == to) ≡ true → new_open ≡ branches → IsNext s from to path (b ∷ branches) true new new_open
step_there s from to path new b branches new_open other h e t same =
    subst (λ q. IsNext s from to path (b ∷ branches) true q new_open) (sym e)
    (subst (λ l. IsNext s from to path (b ∷ branches) true (branched path b) l) (sym same) (there s from to path b branches other h t))

pub step_on : (s : Site) (from to : ℕ) (path new : List Crossing) (b : Branch) (branches new_open : List Branch) → AreOpen s from path (length path) (b ∷ branches) →
    new ≡ branched path b → (zone_at s b.crossing.leave == to) ≡ false → new_open ≡ branches_of s from new ++ branches → GoesOnBy s from to path (b ∷ branches) new new_open
step_on s from to path new b branches new_open h e t same =
    subst (λ q. GoesOnBy s from to path (b ∷ branches) q new_open) (sym e)
    (subst (λ l. GoesOnBy s from to path (b ∷ branches) (branched path b) l) (sym (same ∙ ap (λ (q : List Crossing). branches_of s from q ++ branches) e)) (elsewhere s from to path b branches h t))

-- a branch that leads nowhere
pub step_nowhere : (s : Site) (from to : ℕ) (path new : List Crossing) (b : Branch) (branches new_open : List Branch) → AreOpen s from path (length path) (b ∷ branches) →
    new ≡ branched path b → LeadsNowhere s from to new → new_open ≡ branches → GoesOnBy s from to path (b ∷ branches) new new_open
step_nowhere s from to path new b branches new_open h e none same =
    subst (λ q. GoesOnBy s from to path (b ∷ branches) q new_open) (sym e)
    (subst (λ l. GoesOnBy s from to path (b ∷ branches) (branched path b) l) (sym same) (nowhere_by (subst (λ q. LeadsNowhere s from to q) e none)))
  where
    nowhere_by : LeadsNowhere s from to (branched path b) → GoesOnBy s from to path (b ∷ branches) (branched path b) branches
    nowhere_by none =
        let x = length (all_crossings s) in
        let m = most_of s in
        let some : 0 < size x (m - b.depth) = some_size x (m - b.depth) in
        record {
          kept = closed_kept s from path b branches h;
          walks = ap (λ l. l ++ to_come s from to path branches) (none (m - (b.depth + 1))) ∙ sym (closed_to_come s from to path b branches h);
          less = omega (arith, some);
        }

-- ---- one step of a search for the walks to several zones

-- those of its branches are opened, or it leads to none of the zones: either way the walks are the one found, where it ends there, and those that are to come
pub swept : (s : Site) (from : ℕ) (wanted : List ℕ) (path new : List Crossing) (b : Branch) (branches new_open : List Branch) (z : ℕ) → AreOpen s from path (length path) (b ∷ branches) →
    new ≡ branched path b → z ≡ zone_at s b.crossing.leave → AreOpened s from wanted new branches new_open → IsSwept s from wanted path (b ∷ branches) z new new_open
swept s from wanted path new b branches new_open z h e f opened =
    subst (λ q. IsSwept s from wanted path (b ∷ branches) z q new_open) (sym e)
    (subst (λ k. IsSwept s from wanted path (b ∷ branches) k (branched path b) new_open) (sym f)
    (⊎_elim (λ same. subst (λ l. IsSwept s from wanted path (b ∷ branches) (zone_at s b.crossing.leave) (branched path b) l) (sym same) opened_all)
    (λ none. subst (λ l. IsSwept s from wanted path (b ∷ branches) (zone_at s b.crossing.leave) (branched path b) l) (sym none.1) (opened_none none.0))
    (subst (λ q. AreOpened s from wanted q branches new_open) e opened)))
  where
    q : List Crossing
    q = branched path b

    here : ℕ
    here = zone_at s b.crossing.leave

    ends : (to : ℕ) → (here == to) ≡ true → end_of s from q ≡ to
    ends to t = end_more s from (take b.depth path) b.crossing ∙ eqb-true here to t

    found : (to : ℕ) (l : List Branch) → from ≢ to → (here == to) ≡ true → to_come s from to q l ≡ to_come s from to q branches → to_come s from to path (b ∷ branches) ≡ q ∷ to_come s from to q l
    found to l other t same =
        ap (λ w. w ++ to_come s from to path branches) (arrived s from to (most_of s - (b.depth + 1)) q (not_from_false (from == to) (refused (from == to) (λ e. other (eqb-true from to e)))) h.1 (ends to t))
        ∙ ap (λ w. q ∷ w) (sym (same ∙ closed_to_come s from to path b branches h))

    to_all : (to : ℕ) → from ≢ to → (t : Bool) → (here == to) ≡ t →
        to_come s from to path (b ∷ branches) ≡ cond t (q ∷ []) [] ++ to_come s from to q (branches_of s from q ++ branches)
    to_all to other true t = found to (branches_of s from q ++ branches) other t (past_it s from to q branches (ends to t))
    to_all to other false t = (elsewhere s from to path b branches h t).walks

    opened_all : IsSwept s from wanted path (b ∷ branches) here q (branches_of s from q ++ branches)
    opened_all = record { kept = opened_kept s from path b branches h; walks = λ to w other. to_all to other (here == to) refl; less = opened_less s from path b branches h }

    to_none : LeadsToNone s from wanted q → (to : ℕ) → has wanted to ≡ true → from ≢ to → (t : Bool) → (here == to) ≡ t → to_come s from to path (b ∷ branches) ≡ cond t (q ∷ []) [] ++ to_come s from to q branches
    to_none none to w other true t = found to branches other t refl
    to_none none to w other false t = ap (λ l. l ++ to_come s from to path branches) (none to w (most_of s - (b.depth + 1))) ∙ sym (closed_to_come s from to path b branches h)

    opened_none : LeadsToNone s from wanted q → IsSwept s from wanted path (b ∷ branches) here q branches
    opened_none none =
        let some : 0 < size (length (all_crossings s)) (most_of s - b.depth) = some_size (length (all_crossings s)) (most_of s - b.depth) in
        record { kept = closed_kept s from path b branches h; walks = λ to w other. to_none none to w other (here == to) refl; less = omega (arith, some) }

-- the same, of the branch that was the next one, when the path had it
pub swept_on : (s : Site) (from : ℕ) (wanted : List ℕ) (path taken new : List Crossing) (b : Branch) (branches rest left new_open : List Branch) (z : ℕ) → AreOpen s from path (length path) branches → branches ≡ b ∷ rest →
    taken ≡ branched path b → new ≡ taken → left ≡ rest → z ≡ zone_at s b.crossing.leave → AreOpened s from wanted taken left new_open → IsSwept s from wanted path branches z new new_open
swept_on s from wanted path taken new b branches rest left new_open z h popped e same f is opened =
    subst (λ l. IsSwept s from wanted path l z new new_open) (sym popped)
    (swept s from wanted path new b rest new_open z (subst (λ l. AreOpen s from path (length path) l) popped h) (same ∙ e) is
    (subst (λ q. AreOpened s from wanted q rest new_open) (sym same) (subst (λ l. AreOpened s from wanted taken l new_open) f opened)))
