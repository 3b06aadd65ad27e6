-- The lines of the lists so far are counted.
use Rattle.std.proofs.Common.{◌≡◌, length, take}
use Rattle.std.specs.Prelude.{map, sum_by}
use Rattle.dev_config.specs.Seen.{lines_of}
use Rattle.device_files.proofs.router.count.Given as goal

abbrev pub invariant-loop-list : goal.invariant-loop-list
invariant-loop-list l = l.total ≡ sum_by length (map lines_of (take l.list-index l.lists))
