use Rattle.std.proofs.Common.{◌≡◌, ◌+◌, length}
use Rattle.topology.specs.View.{policy_of}
use Rattle.nat_domains.specs.Marks.{site_of, unmarked}
use Rattle.nat_domains.specs.Spreading.{IsSpreading}
use Rattle.nat_domains.proofs.spread.spread.Given as goal

abbrev pub invariant-loop-z : goal.invariant-loop-z
invariant-loop-z l = IsSpreading (site_of l.topo l.graph) l.tag.0 l.fn.marks l.marks l.waiting.items l.passed.items × (length l.passed.items ≡ length (policy_of l.topo).routers)

abbrev pub decreases-loop-z : goal.decreases-loop-z
decreases-loop-z l = unmarked l.marks + length l.waiting.items
