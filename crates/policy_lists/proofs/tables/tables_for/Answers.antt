use Rattle.std.proofs.Common.{◌≡◌, map}
use Rattle.std.proofs.lemmas.Result.{IfOk-weaker}
use Rattle.topology.specs.View.{policy_of}
use Rattle.path_walk.specs.Tables.{table_seen, table_of}
use Rattle.permit_lines.specs.Given.{site_with}
use Rattle.rule_distribute.specs.Paths.{HaveMarks}
use Rattle.rule_distribute.specs.Shown.{zones_seen}
use Rattle.policy_lists.proofs.Marks.{have_marks}
use Rattle.policy_lists.proofs.tables.tables_for.Goals as goal

pub returns : goal.returns
returns c =
    let s = site_with (policy_of c.args.topo) c.args.graph.now in
    IfOk-weaker c.plain_tables.result (λ tables. map table_seen tables.items ≡ map (table_of s) c.args.pairs.now) (λ tables. HaveMarks s (map zones_seen c.args.pairs.now) tables.items)
    (λ tables e. have_marks s c.args.pairs.now tables.items e) c.plain_tables.ensures
