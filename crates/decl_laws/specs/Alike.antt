-- When a rule counts as another does.
use Rattle.std.specs.Prelude.{ℕ, ◌≡◌, ◌<◌, ◌≤◌, List, length}
use Rattle.policy_model.specs.Policy.{Rule}
use Rattle.policy_model.specs.Zones.{Site}
use Rattle.policy_model.specs.Objects.{Object}
use Rattle.policy_model.specs.Permits.{Permit, rule_items}
use Rattle.policy_model.specs.FirstFault.{most_items}

-- What the rule that is kept lists, each source with each destination and each protocol, is what the whole rule lists, or both list more than a policy may.
pub record AreAlike (s : Site) (areas : List (List ℕ)) (user : List Object) (kept whole : Rule) : Type 0 where
  pub same : length (rule_items s areas user whole) ≤ most_items → rule_items s areas user kept ≡ rule_items s areas user whole
  pub over : most_items < length (rule_items s areas user whole) → most_items < length (rule_items s areas user kept)
