-- Where each managed router has a config, its config stands in its place.
use Rattle.std.proofs.Common.{◌≡◌, ℕ, ◌+◌, true, length, map, refl, ap, ◌∙◌, arith}
use Rattle.std.specs.Prelude.{is_some}
use Rattle.policy_model.specs.Policy.{Policy, Router, no_router, is_managed, managed_routers}
use Rattle.policy_model.specs.Passing.{Config, no_config, config_of}
use Rattle.policy_model.proofs.AllWalks.{managed_is_there}
use Rattle.config_laws.proofs.InOrder.{by_count}

pub config_in_place : (p : Policy) (config : ℕ → Config) (r : ℕ) → is_managed p r ≡ true → config_of p (map config (managed_routers p)) r ≡ config r
config_in_place p config r managed =
    let is : 0 + r ≡ r = omega arith in
    by_count config no_config (λ (x : Router). is_some x.device) no_router (is_managed p) p.routers (length p.routers) 0 r refl
    (λ j h. let same : 0 + j ≡ j = omega arith in ap (is_managed p) same) (managed_is_there p r managed) (ap (is_managed p) is ∙ managed)
    ∙ ap config is
