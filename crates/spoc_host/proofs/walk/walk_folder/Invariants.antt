use Rattle.std.proofs.Common.{length}
use Rattle.spoc_host.specs.Walking.{IsWithin}
use Rattle.spoc_host.proofs.walk.walk_folder.Given as goal

abbrev pub invariant-loop-entry : goal.invariant-loop-entry
invariant-loop-entry g l = IsWithin (length l.walk.found.items) l.walk.entries
