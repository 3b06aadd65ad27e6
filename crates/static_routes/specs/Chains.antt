-- First hops that are kept, so that each is looked for once.
use Rattle.std.specs.Prelude.{ℕ, ◌<◌, List, map, length}
use Rattle.std.specs.declared.cmp.Ordering.{Ordering}
use Rattle.std.specs.Ordering.{ordering_then, nat_cmp}
use Rattle.std.specs.List.{All}
use Rattle.spoc_base.specs.declared.ids.IfId.{IfId}
use Rattle.policy_model.specs.Policy.{Policy}
use Rattle.zone_graph.specs.declared.marks.Crossing.{Crossing}
use Rattle.zone_graph.specs.declared.marks.Link.{Link}

abbrev pub numbers_of : List IfId → List ℕ
numbers_of ifaces = map (λ i. i.0) ifaces

abbrev pub pair_order : ℕ × ℕ → ℕ × ℕ → Ordering
pair_order x y = ordering_then (nat_cmp x.0 y.0) (nat_cmp x.1 y.1)

-- the crossings' leaving interfaces are there
abbrev pub LeaveBelow : Policy → List Crossing → Type 0
LeaveBelow p cs = All (λ c. c.leave.0 < length p.ifaces) cs

-- and both interfaces of the links
abbrev pub LinksBelow : Policy → List Link → Type 0
LinksBelow p ls = All (λ l. (l.leave.0 < length p.ifaces) × (l.enter.0 < length p.ifaces)) ls
