-- One name is distinct.
use Rattle.std.specs.List.{IsDistinct}
use Rattle.call_tests.proofs.folders.a_quiet_folder_lists_and_reads.Goals as goal

pub new-folder-requires : goal.new-folder-requires
unfolding IsDistinct
new-folder-requires g c = rw (c.in_ok-push.ensures.items, c.new-files.ensures.items) (tt, tt)
