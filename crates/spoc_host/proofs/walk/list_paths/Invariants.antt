use Rattle.std.proofs.Common.{length}
use Rattle.spoc_host.specs.Walking.{IsWithin}
use Rattle.spoc_host.proofs.walk.list_paths.Given as goal

abbrev pub invariant-loop : goal.invariant-loop
invariant-loop g l = IsWithin (length l.walk.found.items) l.walk.entries
