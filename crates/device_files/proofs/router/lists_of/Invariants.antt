-- The lists so far are those of the interfaces so far.
use Rattle.std.proofs.Common.{◌≡◌, [], take, slice_index_or}
use Rattle.std.specs.Prelude.{map}
use Rattle.dev_config.specs.Seen.{lines_of}
use Rattle.topology.specs.View.{policy_of}
use Rattle.policy_outcome.specs.Files.{as_written}
use Rattle.device_files.proofs.router.lists_of.Given as goal

abbrev pub invariant-loop-i : goal.invariant-loop-i
invariant-loop-i l = map lines_of l.found.items ≡ map (λ i. as_written (policy_of l.topo) i (slice_index_or (map lines_of l.lists) i [])) (map (λ i. i.0) (take l.i-index l.row))
