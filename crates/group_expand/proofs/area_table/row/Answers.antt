use Rattle.topology.specs.View.{sources_of}
use Rattle.group_expand.specs.Seen.{site_of}
use Rattle.group_expand.proofs.Split.{tells_split, fails_at}
use Rattle.group_expand.proofs.area_table.row.Goals as goal

pub returns-in-Err-Split-clause-split : goal.returns-in-Err-Split-clause-split
returns-in-Err-Split-clause-split c = λ rows before.
    tells_split (sources_of c.args.topo) (site_of c.args.topo c.args.graph.now) c.args.k c.in-Err-Split.i.0 c.split_fault.result
    (record {
      rows = rows;
      before = before;
      there = c.requires.there;
      fails = fails_at (site_of c.args.topo c.args.graph.now) c.args.k c.in-Err-Split.field-0 c.in-Err-Split.i c.in-Err-Split.field-0-is c.in-Err-Split.ensures.split;
      told = c.split_fault.ensures c.args.graph.now.zones;
    })
