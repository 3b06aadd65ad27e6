-- Pairs of networks with a permit between zones that no walk joins.
use Rattle.std.specs.Prelude.{◌≡◌, ℕ, ◌<◌, Bool, true, false, not, ◌&&◌, length}
use Rattle.policy_model.specs.Lists.{is_nothing}
use Rattle.policy_model.specs.Zones.{Site, zone_of}
use Rattle.policy_model.specs.Walks.{allowed_walks}
use Rattle.rule_distribute.specs.Placed.{Pairs, row_at}
use Rattle.rule_distribute.specs.Rows.{pair_at}

-- whether the w-th pair is such a one
abbrev pub lacks_walk : Site → Pairs → ℕ → Bool
lacks_walk s j w = not (is_nothing (row_at j.forward w)) && is_nothing (allowed_walks s (zone_of s (pair_at j.pairs w).0) (zone_of s (pair_at j.pairs w).1))

-- The pair is the first of these.
pub record IsFirstLacking (s : Site) (j : Pairs) (e : ℕ × ℕ) : Type 0 where
  pub place : ℕ
  pub below : place < length j.pairs
  pub is : pair_at j.pairs place ≡ e
  pub lacks : lacks_walk s j place ≡ true
  pub first : (w : ℕ) → w < place → lacks_walk s j w ≡ false

-- There is none.
abbrev pub NoneLacks : Site → Pairs → Type 0
NoneLacks s j = (w : ℕ) → w < length j.pairs → lacks_walk s j w ≡ false
