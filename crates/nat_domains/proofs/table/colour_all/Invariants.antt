use Rattle.std.proofs.Common.{◌≡◌, length}
use Rattle.topology.specs.View.{policy_of}
use Rattle.nat_domains.specs.Marks.{site_of}
use Rattle.nat_domains.specs.Inner.{IsActiveIn, IsInnerTag}
use Rattle.nat_domains.specs.Rows.{tag_rows, AreListed}
use Rattle.nat_domains.specs.Conflicts.{IsConflictBelow}
use Rattle.nat_domains.proofs.table.colour_all.Given as goal

abbrev pub invariant-loop-t : goal.invariant-loop-t
invariant-loop-t l = record {
  each_zone : length l.zones.items ≡ length l.graph.nets;
  each_router : length l.inner.items ≡ length (policy_of l.topo).routers;
  zones : AreListed (IsActiveIn (site_of l.topo l.graph)) (tag_rows l.zones.items) l.t;
  inner : AreListed (IsInnerTag (site_of l.topo l.graph)) (tag_rows l.inner.items) l.t;
  conflict : IsConflictBelow (site_of l.topo l.graph) l.t l.conflict;
}
