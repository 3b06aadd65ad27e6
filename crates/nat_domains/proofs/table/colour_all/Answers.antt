use Rattle.std.proofs.Common.{◌≡◌, ◌∙◌, ℕ, length, sym, subst, arith}
use Rattle.topology.specs.View.{policy_of}
use Rattle.nat_domains.specs.Inner.{IsActiveIn, IsInnerTag}
use Rattle.nat_domains.specs.Marks.{site_of}
use Rattle.nat_domains.specs.Rows.{tag_rows}
use Rattle.nat_domains.specs.Conflicts.{IsConflictBelow}
use Rattle.nat_domains.proofs.Listing.{nothing_listed, rows_long}
use Rattle.nat_domains.proofs.table.colour_all.Goals as goal

pub loop-t-init : goal.loop-t-init
loop-t-init c =
    let s = site_of c.args.topo c.args.graph.now in
    record {
      each_zone = sym (rows_long c.in_ok-zones.zones.items) ∙ (c.in_ok-zones.ensures.each ∙ c.count.ensures);
      each_router = sym (rows_long c.in_ok-inner.inner.items) ∙ (c.in_ok-inner.ensures.each ∙ c.router_count.ensures);
      zones = nothing_listed (IsActiveIn s) (tag_rows c.in_ok-zones.zones.items) c.count.result c.in_ok-zones.ensures;
      inner = nothing_listed (IsInnerTag s) (tag_rows c.in_ok-inner.inner.items) c.router_count.result c.in_ok-inner.ensures;
      conflict = λ z t low w. absurd (omega (arith, low));
    }

pub returns-clause-conflict : goal.returns-clause-conflict
returns-clause-conflict c =
    let p = policy_of c.args.topo in
    let e : c.loop-t.t ≡ length p.tags = omega (arith, c.loop-t-test.false, c.loop-t.auto.t-end, c.tag_count-t-end.ensures) in
    subst (λ (n : ℕ). IsConflictBelow (site_of c.args.topo c.args.graph.now) n c.loop-t.conflict) e c.loop-t.invariant.conflict
