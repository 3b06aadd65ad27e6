-- Marks on zones and routers.
use Rattle.std.specs.Prelude.{◌≡◌, ℕ, ◌<◌, ◌↔◌, Bool, true, false, not, cond, List, set, slice_index_or, length, filter}
use Rattle.policy_model.specs.Zones.{Site}
use Rattle.topology.specs.View.{policy_of}
use Rattle.topology.specs.declared.topo.Topo.{Topo}
use Rattle.zone_graph.specs.Grouped.{Graph}

-- a policy in memory with the zones of its graph
abbrev pub site_of : Topo → Graph → Site
site_of topo graph = record { policy = policy_of topo; zones = graph.zones }

-- whether the thing of this number is marked
abbrev pub is_marked : List Bool → ℕ → Bool
is_marked marks k = slice_index_or marks k false

-- how many aren't marked
abbrev pub unmarked : List Bool → ℕ
unmarked marks = length (filter not marks)

-- a number below the count passes the test, and its thing stands at this place
pub record StandsAt (test : ℕ → Bool) (place : ℕ → ℕ) (count at : ℕ) : Type 0 where
  pub number : ℕ
  pub there : number < count
  pub passes : test number ≡ true
  pub is : place number ≡ at

-- Just the places of the numbers that pass the test are marked.
pub record AreMarkedBy (test : ℕ → Bool) (place : ℕ → ℕ) (count : ℕ) (marks : List Bool) : Type 0 where
  pub marked : (at : ℕ) → (is_marked marks at ≡ true) ↔ StandsAt test place count at

-- the marks with one more, where it is to be set
abbrev pub with_mark : List Bool → ℕ → Bool → List Bool
with_mark marks at b = cond b (set marks at true) marks
