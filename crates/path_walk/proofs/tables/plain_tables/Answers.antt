use Rattle.std.proofs.Common.{◌∙◌, List, length, map, ap, sym}
use Rattle.spoc_base.specs.declared.ids.ZoneId.{ZoneId}
use Rattle.path_walk.specs.Tables.{table_between}
use Rattle.topology.specs.View.{policy_of}
use Rattle.path_walk.specs.Seen.{site_of}
use Rattle.path_walk.proofs.Runs.{tables_cut}
use Rattle.path_walk.proofs.tables.plain_tables.Goals as goal

pub loop-first-preserved : goal.loop-first-preserved
loop-first-preserved c =
    let s = site_of (policy_of c.args.topo) c.args.graph.now in
    tables_cut s c.args.pairs.now c.loop-first.left.now c.in-Some.first.now c.in-Some.rest.now c.loop-first.tables.items c.in_ok-found.found.items c.append.new.self.items c.in_ok-zones.zones.items c.len.result
    c.in-Some.ensures.cases.0 c.loop-first.invariant (c.in_ok-found.ensures ∙ ap (λ (l : List ZoneId). map (table_between s c.in-Some.first.now.0.0) l) c.deref.ensures.value) c.in_ok-zones.ensures.zones
    c.in_ok-append.ensures.items (c.len.ensures ∙ (sym c.deref.ensures.len ∙ ap length c.deref.ensures.value))
