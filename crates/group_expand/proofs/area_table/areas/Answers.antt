use Rattle.std.proofs.Common.{arith, ℕ, List, subst, sym}
use Rattle.policy_model.specs.Objects.{AreAreas}
use Rattle.group_expand.specs.Areas.{AreFirstRows, TellsSplit}
use Rattle.group_expand.specs.Seen.{site_of, rows_of, numbers_of}
use Rattle.group_expand.proofs.Split.{row_more, all_rows, told_at, rows_pushed}
use Rattle.group_expand.proofs.area_table.areas.Goals as goal

pub returns-in-Err-clause-split : goal.returns-in-Err-clause-split
returns-in-Err-clause-split c =
    told_at (λ fault. (rows : List (List ℕ)) → AreFirstRows (site_of c.args.topo c.args.graph.now) rows c.loop-k.k → TellsSplit c.args.topo (site_of c.args.topo c.args.graph.now) fault)
    (TellsSplit c.args.topo (site_of c.args.topo c.args.graph.now)) (λ fault h. h (rows_of c.loop-k.rows.items) c.loop-k.invariant) c.in-Err.refusal c.in-Err.ensures.split

pub loop-k-preserved : goal.loop-k-preserved
loop-k-preserved c =
    row_more (site_of c.args.topo c.args.graph.now) (rows_of c.loop-k.rows.items) _ (numbers_of c.in-Ok.zones.items) c.loop-k.k
    (rows_pushed c.loop-k.rows.items c.push.new.self.items c.in-Ok.zones c.in_ok-push-in-Ok.ensures.items)
    c.in-Ok.ensures.zones c.in-Ok.ensures.whole c.loop-k.invariant

pub returns-clause-areas : goal.returns-clause-areas
returns-clause-areas c =
    subst (AreAreas (site_of c.args.topo c.args.graph.now)) (sym c.of.ensures)
    (all_rows (site_of c.args.topo c.args.graph.now) (rows_of c.loop-k.rows.items) c.loop-k.k (omega (arith, c.loop-k-test.false, c.loop-k.auto.k-end, c.area_count-k-end.ensures)) c.loop-k.invariant)
