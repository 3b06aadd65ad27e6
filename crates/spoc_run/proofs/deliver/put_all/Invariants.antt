use Rattle.std.proofs.Common.{◌≤◌, take, map}
use Rattle.spoc_io.specs.Causes.{BothTold}
use Rattle.device_files.specs.Seen.{file_of}
use Rattle.spoc_run.specs.Puts.{PutsAll}
use Rattle.spoc_run.proofs.deliver.put_all.Given as goal

abbrev pub invariant-loop-file : goal.invariant-loop-file
invariant-loop-file g l = record {
  put : BothTold (PutsAll (take l.file-index (map file_of l.files))) (g.C.Folder.files l.fn.code) (g.C.Folder.files l.code);
  later : g.C.Folder.put_faults l.fn.code ≤ g.C.Folder.put_faults l.code;
}
