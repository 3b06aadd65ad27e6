use Rattle.std.proofs.Common.{◌≡◌, ◌++◌, map, flat_map, drop}
use Rattle.spoc_base.specs.Shown.{box_of}
use Rattle.permit_set.specs.Shown.{end_of, permit_of}
use Rattle.service_rules.specs.Ends.{pair_permits}
use Rattle.service_rules.proofs.permits.add_source.Given as goal

abbrev pub invariant-loop-dst : goal.invariant-loop-dst
invariant-loop-dst l =
    map permit_of l.found.items ++ flat_map (pair_permits (map box_of l.boxes) (end_of l.src)) (map end_of (drop l.dst-index l.dsts))
    ≡ map permit_of l.fn.found.items ++ flat_map (pair_permits (map box_of l.boxes) (end_of l.src)) (map end_of l.dsts)
