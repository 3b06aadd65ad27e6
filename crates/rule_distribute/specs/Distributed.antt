-- What is placed at the interfaces of managed routers, and which fault comes first of permits without a path and of hidden ends.
use Rattle.std.specs.Prelude.{◌≡◌, ℕ, ◌<◌, ◌&&◌, ◌==◌, not, List, length, map, filter, IsTrue}
use Rattle.std.specs.List.{list_any}
use Rattle.spoc_base.specs.declared.place.Source.{Source}
use Rattle.spoc_base.specs.declared.fault.Fault.{Fault}
use Rattle.policy_model.specs.Policy.{Policy, router_at, is_managed, all_ifaces}
use Rattle.policy_model.specs.Zones.{Site, zone_count}
use Rattle.policy_model.specs.Tags.{Views}
use Rattle.policy_model.specs.Permits.{Permit}
use Rattle.policy_model.specs.Blocks.{Block, placement, permit_at}
use Rattle.policy_model.specs.Faults.{has_no_path, is_hidden_end}
use Rattle.policy_model.specs.FirstFault.{FaultCase, NoPath, HiddenEnd, is_lower, order_of}
use Rattle.topology.specs.Told.{IsTold}
use Rattle.permit_set.specs.declared.block.Placement.{Placement}
use Rattle.rule_distribute.specs.Shown.{block_seen}

-- an interface with what is placed there
abbrev pub placed_seen : Placement → ℕ × List Block
placed_seen place = (place.iface.0, map block_seen place.pairs)

-- the interfaces of managed routers, by number
abbrev pub managed_ifaces : Policy → List ℕ
managed_ifaces p = filter (λ i. is_managed p (router_at p i)) (all_ifaces p)

-- each of them with what is placed there
abbrev pub placed_at : Site → Views → List Permit → List (ℕ × List Block)
placed_at s v permits = map (λ i. (i, placement s v permits i)) (managed_ifaces s.policy)

-- The permits have the fault: one between the two networks has no path, or an end of this one is hidden in this zone of an allowed walk.
abbrev pub HasWalkFault : Site → Views → List Permit → FaultCase → Type 0
HasWalkFault s v permits (NoPath u w) = IsTrue (list_any (λ q. (q.src.net == u) && (q.dst.net == w) && has_no_path s q) permits)
HasWalkFault s v permits (HiddenEnd k u w n z) =
    (k < length permits) × (z < zone_count s) × IsTrue (is_hidden_end s v (permit_at permits k) n z) × ((permit_at permits k).src.net ≡ u) × ((permit_at permits k).dst.net ≡ w)
HasWalkFault s v permits _ = ⊥

-- They have none.
abbrev pub IsClear : Site → Views → List Permit → Type 0
IsClear s v permits = (f : FaultCase) → HasWalkFault s v permits f → ⊥

-- They have the fault that is told, and none that comes before it.
pub record TellsWalk (sources : List Source) (s : Site) (v : Views) (permits : List Permit) (told : Fault) : Type 0 where
  pub case : FaultCase
  pub there : HasWalkFault s v permits case
  pub first : (g : FaultCase) → HasWalkFault s v permits g → IsTrue (not (is_lower (order_of permits g) (order_of permits case)))
  pub tells : IsTold sources s case told
