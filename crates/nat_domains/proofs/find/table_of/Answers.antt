use Rattle.std.proofs.Common.{Option, length, sym, subst, arith}
use Rattle.policy_model.specs.Tags.{Views, AreViews}
use Rattle.topology.specs.View.{policy_of}
use Rattle.nat_domains.specs.declared.table.Conflict.{Conflict}
use Rattle.nat_domains.specs.Conflicts.{IsConflictBelow}
use Rattle.nat_domains.specs.Marks.{site_of}
use Rattle.nat_domains.specs.Rows.{tag_rows}
use Rattle.nat_domains.proofs.Calling.{count_zones}
use Rattle.nat_domains.proofs.Viewed.{listed_views}
use Rattle.nat_domains.proofs.find.table_of.Goals as goal

pub conflict_fault-requires-clause-zone : goal.conflict_fault-requires-clause-zone
conflict_fault-requires-clause-zone c =
    let p = policy_of c.args.topo in
    let s = site_of c.args.topo c.args.graph.now in
    let least = subst (λ (k : Option Conflict). IsConflictBelow s (length p.tags) k) c.in-Some.is c.in_ok-tables.ensures.conflict in
    let counted = count_zones p c.args.graph.now c.requires in omega (arith, least.there, counted)

pub conflict_fault-requires-clause-tag : goal.conflict_fault-requires-clause-tag
conflict_fault-requires-clause-tag c =
    let p = policy_of c.args.topo in
    let s = site_of c.args.topo c.args.graph.now in
    let least = subst (λ (k : Option Conflict). IsConflictBelow s (length p.tags) k) c.in-Some.is c.in_ok-tables.ensures.conflict in least.low

pub returns-in-Some-clause-refused : goal.returns-in-Some-clause-refused
returns-in-Some-clause-refused c =
    let p = policy_of c.args.topo in
    let s = site_of c.args.topo c.args.graph.now in
    record {
      zone = c.in-Some.conflict.zone.0;
      tag = c.in-Some.conflict.tag.0;
      first = subst (λ (k : Option Conflict). IsConflictBelow s (length p.tags) k) c.in-Some.is c.in_ok-tables.ensures.conflict;
      tells = c.conflict_fault.ensures;
    }

pub returns-clause-views : goal.returns-clause-views
returns-clause-views c =
    let p = policy_of c.args.topo in
    let g = c.args.graph.now in
    let s = site_of c.args.topo g in
    let t = c.in_ok-tables.tables in
    let v : Views = record { zones = tag_rows t.zones.items; routers = tag_rows t.inner.items } in
    subst (λ (x : Views). AreViews s x) (sym c.new.ensures)
    (listed_views s v c.args.topo.kept.sound.numbered (length g.nets) c.requires.table.each c.requires.numbers c.in_ok-tables.ensures.zones c.in_ok-tables.ensures.each_zone
    c.in_ok-tables.ensures.inner c.in_ok-tables.ensures.each_router)

pub returns-clause-none : goal.returns-clause-none
returns-clause-none c =
    let p = policy_of c.args.topo in
    let s = site_of c.args.topo c.args.graph.now in
    subst (λ (k : Option Conflict). IsConflictBelow s (length p.tags) k) c.in_default.is c.in_ok-tables.ensures.conflict
