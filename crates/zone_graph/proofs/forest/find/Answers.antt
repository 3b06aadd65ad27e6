use Rattle.std.proofs.Common.{◌∙◌, arith}
use Rattle.topology.specs.View.{policy_of}
use Rattle.zone_graph.proofs.Joining.{joined_on}
use Rattle.zone_graph.proofs.forest.find.Goals as goal

pub loop-parents-preserved : goal.loop-parents-preserved
loop-parents-preserved c =
    let old = c.loop-parents.invariant in
    let new = c.halve-at.ensures in (
      new.forest,
      omega (arith, new.lower, old.1, new.forest.each, old.0.each),
      λ label h. old.2 label (new.ties label h),
      λ label h. old.3 label (new.ties label h) ∙ new.tied label h,
      joined_on (policy_of c.args.topo) c.args.n _ c.halve-at.result old.4 new.joined,
      λ k root. new.roots k (old.5 k root),
    )
