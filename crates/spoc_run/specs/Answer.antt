-- What was decided, before anything is written.
use Rattle.std.specs.Prelude.{ℕ, List, codes}
use Rattle.spoc_run.specs.declared.answer.Message.{Message}
use Rattle.spoc_run.specs.declared.answer.Message.TheVariants.{Usage, ReadFault, NoRoom, Made}

-- the bytes of a message
abbrev pub bytes_of_message : Message → List ℕ
bytes_of_message Usage = codes "usage\n"
bytes_of_message ReadFault = codes "read fault\n"
bytes_of_message NoRoom = codes "memory\n"
bytes_of_message (Made text) = text
