-- The prefixes left decide as all of them do.
use Rattle.std.proofs.Common.{◌≡◌, map, drop}
use Rattle.spoc_base.specs.Shown.{cidr_of}
use Rattle.policy_model.specs.Filters.{prefixes_cover}
use Rattle.local_optimise.proofs.ends.end_covers.Given as goal

abbrev pub invariant-loop-p : goal.invariant-loop-p
invariant-loop-p l = prefixes_cover (map cidr_of l.outer) (map cidr_of l.inner) ≡ prefixes_cover (map cidr_of l.outer) (map cidr_of (drop l.p-index l.inner))
