-- The files of the routers so far are made, and their lines counted.
use Rattle.std.proofs.Common.{◌≡◌}
use Rattle.std.specs.Prelude.{map, sum_by}
use Rattle.policy_model.specs.Lists.{numbers_below}
use Rattle.topology.specs.View.{policy_of}
use Rattle.dev_config.specs.Seen.{lines_of}
use Rattle.policy_outcome.specs.Files.{config_for, files_of, lines_in, managed_in}
use Rattle.device_files.specs.Seen.{file_of}
use Rattle.device_files.proofs.files.device_files.Given as goal

abbrev pub invariant-loop-r : goal.invariant-loop-r
invariant-loop-r l = record {
  files : map file_of l.files.items ≡ files_of (policy_of l.topo) (map lines_of l.lists) (managed_in (policy_of l.topo) (numbers_below l.r));
  lines : l.lines ≡ sum_by (λ r. lines_in (config_for (policy_of l.topo) (map lines_of l.lists) r)) (managed_in (policy_of l.topo) (numbers_below l.r));
}
