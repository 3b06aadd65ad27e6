-- Which interfaces are still to come, and what is placed at them.
use Rattle.std.specs.Prelude.{◌≡◌, ℕ, ◌-◌, List, length, map, filter}
use Rattle.std.specs.List.{range_with_len}
use Rattle.policy_model.specs.Policy.{Policy, router_at, is_managed}
use Rattle.policy_model.specs.Blocks.{Block, placement}
use Rattle.policy_model.specs.Headline.{Meaning, permits_in}
use Rattle.permit_set.specs.declared.block.Placement.{Placement}
use Rattle.rule_distribute.specs.Distributed.{placed_seen}

-- the interfaces from one on
abbrev pub ifaces_from : Policy → ℕ → List ℕ
ifaces_from p i = range_with_len i (length p.ifaces - i)

-- an interface, with what is placed there
abbrev pub placed_in : Meaning → ℕ → ℕ × List Block
placed_in m i = (i, placement m.site m.views (permits_in m) i)

-- The placements are those of the interfaces of managed routers from one on, in order.
abbrev pub ArePlacedFrom : Meaning → ℕ → List Placement → Type 0
ArePlacedFrom m i places =
    map placed_seen places ≡ map (placed_in m) (filter (λ k. is_managed m.site.policy (router_at m.site.policy k)) (ifaces_from m.site.policy i))
