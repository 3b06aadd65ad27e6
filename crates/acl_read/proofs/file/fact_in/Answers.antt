use Rattle.std.proofs.Common.{refl, map}
use Rattle.device_lines.specs.Seen as lines
use Rattle.acl_read.specs.Seen.{port_at, fact_seen}
use Rattle.acl_read.proofs.NextLaws.{in_none, in_some}
use Rattle.acl_read.proofs.file.fact_in.Goals as goal

pub returns-in-None : goal.returns-in-None
returns-in-None c = in_none c.args.dialect (map port_at c.args.ports.now) (map fact_seen c.args.above.now) c.args.line.now (c.in-None.ensures.refuses refl)

pub returns-in-Some : goal.returns-in-Some
returns-in-Some c =
    let e = in_some c.args.dialect (map port_at c.args.ports.now) (map fact_seen c.args.above.now) c.args.line.now (lines.fact_of c.in-Some.command) c.in-Some.ensures.read in
    rw e c.complete.ensures
