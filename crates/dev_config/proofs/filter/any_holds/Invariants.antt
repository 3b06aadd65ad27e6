-- The prefixes left hold the address exactly if all of them do.
use Rattle.std.proofs.Common.{◌≡◌, map, drop}
use Rattle.spoc_base.specs.Shown.{cidr_of}
use Rattle.policy_model.specs.Filters.{prefixes_hold}
use Rattle.dev_config.proofs.filter.any_holds.Given as goal

abbrev pub invariant-loop-p : goal.invariant-loop-p
invariant-loop-p l = prefixes_hold (map cidr_of l.prefixes) l.a.0 ≡ prefixes_hold (map cidr_of (drop l.p-index l.prefixes)) l.a.0
