use Rattle.std.proofs.Common.{◌≡◌, ◌++◌, map, drop}
use Rattle.spoc_base.specs.Shown.{box_of}
use Rattle.permit_set.specs.Shown.{end_of, permit_of}
use Rattle.service_rules.specs.Ends.{pair_permits}
use Rattle.service_rules.proofs.permits.add_pair.Given as goal

abbrev pub invariant-loop-t : goal.invariant-loop-t
invariant-loop-t l =
    map permit_of l.found.items ++ pair_permits (map box_of (drop l.t-index l.boxes)) (end_of l.src) (end_of l.dst)
    ≡ map permit_of l.fn.found.items ++ pair_permits (map box_of l.boxes) (end_of l.src) (end_of l.dst)
