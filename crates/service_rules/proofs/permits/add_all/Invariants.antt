use Rattle.std.proofs.Common.{◌≡◌, ◌++◌, map, drop}
use Rattle.spoc_base.specs.Shown.{box_of}
use Rattle.permit_set.specs.Shown.{end_of, permit_of}
use Rattle.service_rules.specs.Ends.{all_permits}
use Rattle.service_rules.proofs.permits.add_all.Given as goal

abbrev pub invariant-loop-src : goal.invariant-loop-src
invariant-loop-src l =
    map permit_of l.found.items ++ all_permits (map end_of (drop l.src-index l.srcs)) (map end_of l.dsts) (map box_of l.boxes)
    ≡ map permit_of l.fn.found.items ++ all_permits (map end_of l.srcs) (map end_of l.dsts) (map box_of l.boxes)
