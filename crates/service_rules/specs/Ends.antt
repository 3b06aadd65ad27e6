-- What objects stand for, object by object.
use Rattle.std.specs.Prelude.{ℕ, Bool, not, ◌&&◌, ◌==◌, if◌then◌else◌, List, [], map, flat_map}
use Rattle.spoc_base.specs.Address.{is_inside}
use Rattle.spoc_base.specs.Boxes.{TransportBox}
use Rattle.policy_model.specs.Policy.{Policy, Rule, net_of}
use Rattle.policy_model.specs.Zones.{Site}
use Rattle.policy_model.specs.Objects.{Object}
use Rattle.policy_model.specs.Permits.{End, Permit, rule_items, items_of}

-- another network inside the prefix of a network
abbrev pub is_nested : Policy → ℕ → ℕ → Bool
is_nested p n m = not (m == n) && is_inside (net_of p m).own (net_of p n).own

-- one source with one destination and each box
abbrev pub pair_permits : List TransportBox → End → End → List Permit
pair_permits boxes src dst = map (λ box. record { src = src; dst = dst; box = box }) boxes

-- each source with each destination and each box
abbrev pub all_permits : List End → List End → List TransportBox → List Permit
all_permits srcs dsts boxes = flat_map (λ src. flat_map (λ dst. map (λ box. record { src = src; dst = dst; box = box }) boxes) dsts) srcs

-- the rule denies, or it permits where that is asked
abbrev pub is_action : Bool → Rule → Bool
is_action deny rule = if deny then rule.deny else not rule.deny

-- what a rule of the action lists, and nothing of a rule of the other
abbrev pub items_if : Site → List (List ℕ) → List Object → Bool → Rule → List Permit
items_if s areas user deny rule = if is_action deny rule then rule_items s areas user rule else []

-- what the rules of the action list
abbrev pub listed : Bool → Site → List (List ℕ) → List Permit
listed deny s areas = items_of s areas (is_action deny)
