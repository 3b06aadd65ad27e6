use Rattle.std.proofs.Common.{ℕ, ◌++◌, ◌∷◌, [], map, take, get_or, ap, sym, ◌∙◌}
use Rattle.std.proofs.lemmas.List.{map_push, map_more}
use Rattle.spoc_base.specs.declared.ids.ZoneId.{ZoneId}
use Rattle.topology.specs.View.{policy_of}
use Rattle.path_walk.specs.Seen.{site_of}
use Rattle.path_walk.specs.Swept.{numbers_of}
use Rattle.path_walk.specs.Tables.{table_seen, table_between}
use Rattle.path_walk.proofs.Ends.{looked_for}
use Rattle.path_walk.proofs.Wanted.{table_told}
use Rattle.path_walk.proofs.tables.tables_from.Goals as goal

pub loop-to-preserved : goal.loop-to-preserved
loop-to-preserved c =
    let from = c.args.from.0 in
    let wanted = c.args.wanted.now in
    let k = c.loop-to.to-index in
    let none : ZoneId = record { 0 = 0 } in
    let f = table_between (site_of (policy_of c.args.topo) c.args.graph.now) from in
    let found = c.in_ok-table.field-0 in
    let ends = λ (to : ℕ). c.in_ok-add_all.ensures.zones to ∙ c.in_ok-finds.ensures.zones to in
    let told = c.in_ok-table.ensures
    ∙ table_told (site_of (policy_of c.args.topo) c.args.graph.now) from (numbers_of wanted) c.add_all.new.self.ends (get_or wanted k none) ends c.in_ok-add_all.ensures.marks (looked_for wanted k none c.loop-to-test.true) in
    ap (map table_seen) (c.in_ok-push.ensures {u = tt}).items
    ∙ (map_push table_seen c.loop-to.tables.items found
    ∙ (ap (λ ts. ts ++ table_seen found ∷ []) c.loop-to.invariant ∙ (ap (λ t. map f (take k wanted) ++ t ∷ []) told ∙ sym (map_more f wanted k none c.loop-to-test.true))))
