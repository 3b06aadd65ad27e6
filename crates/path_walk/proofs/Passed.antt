-- Where a path has crossed a router, it doesn't go on through it.
use Rattle.std.proofs.Common.{◌≡◌, ℕ, Bool, true, false, not, ◌&&◌, cond, List, [], ◌∷◌, ◌++◌, map, filter, refl, sym, ap, ◌∙◌}
use Rattle.std.specs.Prelude.{◌==◌}
use Rattle.std.proofs.lemmas.List.{append-nil}
use Rattle.policy_model.specs.Lists.{has}
use Rattle.policy_model.specs.Policy.{router_at}
use Rattle.policy_model.specs.Paths.{Crossing, places_on, routers_on}
use Rattle.policy_model.specs.Zones.{Site, zone_at}
use Rattle.policy_model.specs.Walks.{is_crossing, is_unrestricted}
use Rattle.topology.specs.Kept.{ifaces_of}
use Rattle.path_walk.specs.Search.{end_of, goes_on, step_of, by_door}

stopped : (a b c u : Bool) → (a && b && c && not true && u) ≡ false
stopped false b c u = refl
stopped true false c u = refl
stopped true true false u = refl
stopped true true true u = refl

module _ (s : Site) (from : ℕ) (path : List Crossing) (e : ℕ) (passed : has (routers_on s.policy path) (router_at s.policy e) ≡ true) where
  no_step : (l : ℕ) → goes_on s from path (step_of e l) ≡ false
  no_step l =
      let c : Crossing = step_of e l in
      ap (λ (d : Bool). is_crossing s c && (zone_at s c.enter == end_of s from path) && not (has (places_on (zone_at s) from path) (zone_at s c.leave)) && not d && is_unrestricted s.policy (path ++ c ∷ [])) passed
      ∙ stopped (is_crossing s c) (zone_at s c.enter == end_of s from path) (not (has (places_on (zone_at s) from path) (zone_at s c.leave))) (is_unrestricted s.policy (path ++ c ∷ []))

  no_steps : (ls : List ℕ) → filter (goes_on s from path) (map (step_of e) ls) ≡ []
  no_steps [] = refl
  no_steps (l ∷ ls) =
      let rest = filter (goes_on s from path) (map (step_of e) ls) in
      ap (λ (b : Bool). cond b (step_of e l ∷ rest) rest) (no_step l) ∙ no_steps ls

  pub nothing_by : (found : List Crossing) → found ≡ found ++ by_door s from path e
  nothing_by found =
      sym (append-nil found) ∙ ap (λ (more : List Crossing). found ++ more) (sym (no_steps (ifaces_of s.policy (router_at s.policy e))))
