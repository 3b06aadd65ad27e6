use Rattle.device_lines.proofs.LineLaws.{reads_exactly, refuses_exactly}
use Rattle.device_lines.proofs.line.read_line.Goals as goal

pub returns : goal.returns
returns c = record {
  read = reads_exactly c.args.dialect c.args.line.now c.said_by.result c.said_by.ensures;
  refuses = refuses_exactly c.args.dialect c.args.line.now c.said_by.result c.said_by.ensures;
}
