-- One step of a search, after others.
use Rattle.std.proofs.Common.{◌≡◌, ◌≢◌, ℕ, ◌<◌, Bool, true, false, not, List, [], ◌∷◌, length, refl, sym, ap, subst, ◌∙◌, ⊎_elim}
use Rattle.std.specs.Prelude.{◌==◌}
use Rattle.std.proofs.lemmas.Bool.{eqb-true, eq-eqb, not_from_false, or_left}
use Rattle.policy_model.specs.Paths.{Crossing}
use Rattle.policy_model.specs.Zones.{Site, zone_at}
use Rattle.policy_model.specs.Walks.{all_crossings}
use Rattle.path_walk.specs.Search.{Branch, AreOpen, branched, to_come, most_of, weight}
use Rattle.path_walk.specs.Next.{IsNext}
use Rattle.path_walk.specs.Shut.{AreOpened, AreLeft}
use Rattle.path_walk.proofs.Fronts.{refused}
use Rattle.path_walk.proofs.Open.{GoesOnBy, IsGoing, step_there, step_on, step_nowhere}

pub zones_differ : (from to : ℕ) → (from ≢ to) → not (from == to) ≡ true
zones_differ from to other = not_from_false (from == to) (refused (from == to) (λ e. other (eqb-true from to e)))

-- what a step leaves: the path with the branch, and the branches of it where it doesn't lead to the zone
pub record IsStepped (s : Site) (from to : ℕ) (path : List Crossing) (b : Branch) (rest : List Branch) (found : Bool) (new : List Crossing) (new_open : List Branch) : Type 0 where
  pub moved : new ≡ branched path b
  pub there : found ≡ (zone_at s b.crossing.leave == to)
  pub opened : AreLeft s from to found new rest new_open

pub next_there : (s : Site) (from to : ℕ) (old : List Crossing) (old_open : List Branch) (path : List Crossing) (branches : List Branch) (b : Branch) (rest : List Branch) (found : Bool)
    (new : List Crossing) (new_open : List Branch) → (from ≢ to) → IsGoing s from to old old_open path branches → branches ≡ b ∷ rest → IsStepped s from to path b rest found new new_open → found ≡ true →
    IsNext s from to old old_open true new new_open
next_there s from to old old_open path branches b rest found new new_open other going popped stepped is =
    let kept = subst (λ (l : List Branch). AreOpen s from path (length path) l) popped going.kept in
    let opened : new_open ≡ rest = subst (λ (x : Bool). AreLeft s from to x new rest new_open) is stepped.opened in
    let n = step_there s from to path new b rest new_open (zones_differ from to other) kept stepped.moved (sym stepped.there ∙ is) opened in
    record { kept = n.kept; walks = going.walks ∙ (ap (λ (l : List Branch). to_come s from to path l) popped ∙ n.walks) }

-- the search goes on, and less is left
pub record HasGoneOn (s : Site) (from to : ℕ) (old : List Crossing) (old_open branches : List Branch) (new : List Crossing) (new_open : List Branch) : Type 0 where
  pub going : IsGoing s from to old old_open new new_open
  pub less : weight (most_of s) (length (all_crossings s)) new_open < weight (most_of s) (length (all_crossings s)) branches

pub next_on : (s : Site) (from to : ℕ) (old : List Crossing) (old_open : List Branch) (path : List Crossing) (branches : List Branch) (b : Branch) (rest : List Branch) (found : Bool)
    (new : List Crossing) (new_open : List Branch) → IsGoing s from to old old_open path branches → branches ≡ b ∷ rest → IsStepped s from to path b rest found new new_open → found ≡ false →
    HasGoneOn s from to old old_open branches new new_open
next_on s from to old old_open path branches b rest found new new_open going popped stepped is =
    let kept = subst (λ (l : List Branch). AreOpen s from path (length path) l) popped going.kept in
    let opened : AreOpened s from (to ∷ []) new rest new_open = subst (λ (x : Bool). AreLeft s from to x new rest new_open) is stepped.opened in
    let g : GoesOnBy s from to path (b ∷ rest) new new_open =
    ⊎_elim (λ e. step_on s from to path new b rest new_open kept stepped.moved (sym stepped.there ∙ is) e)
    (λ e. step_nowhere s from to path new b rest new_open kept stepped.moved (e.0 to (or_left (to == to) false (eq-eqb to to refl))) e.1) opened in
    record {
      going = record { kept = g.kept; walks = going.walks ∙ (ap (λ (l : List Branch). to_come s from to path l) popped ∙ g.walks) };
      less = subst (λ (l : List Branch). weight (most_of s) (length (all_crossings s)) new_open < weight (most_of s) (length (all_crossings s)) l) (sym popped) g.less;
    }
