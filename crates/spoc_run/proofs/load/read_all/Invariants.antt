use Rattle.std.proofs.Common.{◌≡◌, ◌≤◌, All, length}
use Rattle.std.specs.Option.{ForSome}
use Rattle.spoc_run.specs.Policy.{most_of_all, most_of_one}
use Rattle.spoc_run.specs.Sources.{ReadsOn, ReadsPaths}
use Rattle.spoc_run.proofs.load.read_all.Given as goal

abbrev pub invariant-loop-path : goal.invariant-loop-path
invariant-loop-path g l =
    let folder = g.P.Folder in
    record {
      same : folder.files l.policy ≡ folder.files l.fn.policy;
      told : ForSome (folder.files l.fn.policy) (λ fs. ReadsOn fs l.fn.wanted.keys l.path-iterator l.sources.items l.left);
      any : ReadsPaths l.fn.wanted.keys l.path-iterator l.sources.items l.left;
      later : folder.faults l.fn.policy ≤ folder.faults l.policy;
      larges : folder.larges l.policy ≡ folder.larges l.fn.policy;
      each : All (λ s. length s.text ≤ most_of_one) l.sources.items;
      left : l.left ≤ most_of_all;
    }
