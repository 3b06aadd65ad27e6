-- Configs whose lists decide as the policy's own, and where lists stand.
use Rattle.std.proofs.Common.{◌≡◌, ℕ, ◌+◌, ◌<◌, true, List, [], length, map, refl, sym, ap, subst, ◌∙◌, arith}
use Rattle.std.specs.Prelude.{◌==◌, nat_lt, filter, slice_index_or, is_some}
use Rattle.std.proofs.lemmas.Bool.{eq-eqb}
use Rattle.policy_model.specs.Policy.{Policy, Router, no_router, router_at, is_managed, managed_routers}
use Rattle.policy_model.specs.Tags.{ifaces_of}
use Rattle.policy_model.specs.Filters.{Line}
use Rattle.policy_model.specs.Laws.{PassAlike}
use Rattle.policy_model.specs.Blocks.{list_at}
use Rattle.policy_model.specs.Passing.{Config, no_config, config_of, list_in}
use Rattle.policy_model.specs.Headline.{Meaning, IsMeaning, permits_in, DevicesPass, ListsPass, WalksPass}
use Rattle.policy_model.proofs.AllWalks.{managed_is_there}
use Rattle.policy_laws.specs.Shaped.{IsShaped, HasDistinctPrefixes}
use Rattle.policy_laws.proofs.Devices.{devices_pass, walks_pass, lists_pass}
use Rattle.policy_laws.proofs.Shapes.{secured}
use Rattle.config_laws.proofs.InOrder.{by_count, by_lower}

-- ---- what they pass

abbrev DecideAsOwn : Policy → Meaning → List Config → Type 0
DecideAsOwn p m configs = (i : ℕ) → i < length p.ifaces → is_managed p (router_at p i) ≡ true → PassAlike (list_at m.site m.views (permits_in m) i) (list_in p configs i)

alike_pass : (m : Meaning) (configs : List Config) → HasDistinctPrefixes m.site m.views → IsShaped m.site.policy → DecideAsOwn m.site.policy m configs →
    WalksPass m configs × DevicesPass m configs × ListsPass m configs
alike_pass m configs distinct shaped lists =
    let safe = secured m.site m.areas shaped m.views distinct in
    (walks_pass m configs safe lists, devices_pass m configs safe lists, lists_pass m configs safe lists)

pub lists_alike_pass : (p : Policy) (m : Meaning) (configs : List Config) → IsMeaning p m → IsShaped p → HasDistinctPrefixes m.site m.views → DecideAsOwn p m configs →
    WalksPass m configs × DevicesPass m configs × ListsPass m configs
lists_alike_pass p m configs its shaped distinct alike =
    subst (λ (q : Policy). IsShaped q → DecideAsOwn q m configs → WalksPass m configs × DevicesPass m configs × ListsPass m configs) its.policy (alike_pass m configs distinct) shaped alike

-- ---- where they stand

module _ (p : Policy) (config : ℕ → Config) (lists : ℕ → List Line) where
  config_there : (r : ℕ) → is_managed p r ≡ true → config_of p (map config (managed_routers p)) r ≡ config r
  config_there r managed =
      let is : 0 + r ≡ r = omega arith in
      by_count config no_config (λ (x : Router). is_some x.device) no_router (is_managed p) p.routers (length p.routers) 0 r refl
      (λ j h. let same : 0 + j ≡ j = omega arith in ap (is_managed p) same) (managed_is_there p r managed) (ap (is_managed p) is ∙ managed)
      ∙ ap config is

  pub list_there : ((r : ℕ) → is_managed p r ≡ true → (config r).lists ≡ map lists (ifaces_of p r)) →
      (i : ℕ) → i < length p.ifaces → is_managed p (router_at p i) ≡ true → list_in p (map config (managed_routers p)) i ≡ lists i
  list_there own i below managed =
      let r = router_at p i in
      let number = length (filter (λ j. nat_lt j i) (ifaces_of p r)) in
      ap (λ (c : Config). slice_index_or c.lists number []) (config_there r managed)
      ∙ (ap (λ (lines : List (List Line)). slice_index_or lines number []) (own r managed)
      ∙ by_lower lists [] (λ j. router_at p j == r) 0 (length p.ifaces) i (omega arith) (omega arith) (eq-eqb r r refl))

-- ---- both

pub lists_by_router_pass : (p : Policy) (m : Meaning) (config : ℕ → Config) (lists : ℕ → List Line) → IsMeaning p m → IsShaped p → HasDistinctPrefixes m.site m.views →
    ((i : ℕ) → i < length p.ifaces → is_managed p (router_at p i) ≡ true → PassAlike (list_at m.site m.views (permits_in m) i) (lists i)) →
    ((r : ℕ) → is_managed p r ≡ true → (config r).lists ≡ map lists (ifaces_of p r)) →
    WalksPass m (map config (managed_routers p)) × DevicesPass m (map config (managed_routers p)) × ListsPass m (map config (managed_routers p))
lists_by_router_pass p m config lists its shaped distinct alike own =
    lists_alike_pass p m (map config (managed_routers p)) its shaped distinct
    (λ i below managed. subst (PassAlike (list_at m.site m.views (permits_in m) i)) (sym (list_there p config lists own i below managed)) (alike i below managed))
