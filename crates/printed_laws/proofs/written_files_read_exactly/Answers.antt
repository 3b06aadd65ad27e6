use Rattle.printed_laws.proofs.Files.{files_read}
use Rattle.printed_laws.proofs.written_files_read_exactly.Goals as goal

pub returns : goal.returns
returns c = files_read
