-- The prefixes left decide as all of them do.
use Rattle.std.proofs.Common.{◌≡◌, map, drop}
use Rattle.std.specs.List.{list_any}
use Rattle.spoc_base.specs.Address.{is_inside}
use Rattle.spoc_base.specs.Shown.{cidr_of}
use Rattle.local_optimise.proofs.ends.is_within.Given as goal

abbrev pub invariant-loop-q : goal.invariant-loop-q
invariant-loop-q l = list_any (is_inside (cidr_of l.p)) (map cidr_of l.outer) ≡ list_any (is_inside (cidr_of l.p)) (map cidr_of (drop l.q-index l.outer))
