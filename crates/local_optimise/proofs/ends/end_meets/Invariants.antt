-- The prefixes left decide as all of them do.
use Rattle.std.proofs.Common.{◌≡◌, map, drop}
use Rattle.spoc_base.specs.Shown.{cidr_of}
use Rattle.policy_model.specs.Filters.{prefixes_meet}
use Rattle.local_optimise.proofs.ends.end_meets.Given as goal

abbrev pub invariant-loop-p : goal.invariant-loop-p
invariant-loop-p l = prefixes_meet (map cidr_of l.one) (map cidr_of l.other) ≡ prefixes_meet (map cidr_of (drop l.p-index l.one)) (map cidr_of l.other)
