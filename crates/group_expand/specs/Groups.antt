-- The sets of groups, each made after those of the groups that it names.
use Rattle.std.specs.Prelude.{◌≡◌, ℕ, ◌+◌, ◌<◌, ◌≤◌, Bool, true, false, not, List, ◌∷◌, length}
use Rattle.std.specs.List.{list_any}
use Rattle.policy_model.specs.Policy.{Policy, ObjectExpr}
use Rattle.policy_model.specs.Zones.{Site}
use Rattle.policy_model.specs.Objects as plain
use Rattle.policy_model.specs.Objects.{group_objects}
use Rattle.topology.specs.Sound.{groups_in, is_chain}
use Rattle.group_expand.specs.Sets.{group_set, are_there}
use Rattle.group_expand.specs.Spread.{marked, unmarked_count}

-- The expression names a group that isn't done.
abbrev pub waits : List Bool → ObjectExpr → Bool
waits done e = list_any (λ g. not (marked done g)) (groups_in e)

-- Of each group that is done its set is known: that at any nesting at least as deep as there are groups done.
pub record AreFilled (s : Site) (areas : List (List ℕ)) (done : List Bool) (groups : List (List plain.Object)) : Type 0 where
  pub marks : length done ≡ length s.policy.groups
  pub rows : length groups ≡ length s.policy.groups
  pub its : (g depth : ℕ) → marked done g ≡ true → length s.policy.groups ≤ depth + unmarked_count done → group_set groups g ≡ group_objects s areas depth g
  pub there : (g : ℕ) → are_there s.policy (group_set groups g) ≡ true

-- groups of which each names the next, one and so many further ones
pub record HasChain (p : Policy) (g count : ℕ) : Type 0 where
  pub rest : List ℕ
  pub chain : is_chain p (g ∷ rest) ≡ true
  pub long : length rest ≡ count

-- At each group that isn't done a chain of so many further groups begins.
abbrev pub HaveChains : Policy → List Bool → ℕ → Type 0
HaveChains p done count = (g : ℕ) → g < length p.groups → marked done g ≡ false → HasChain p g count
