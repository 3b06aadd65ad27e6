use Rattle.std.proofs.Common.{◌≡◌, ◌≤◌, length, filter, map}
use Rattle.std.specs.Prelude.{take}
use Rattle.permit_set.specs.Shown.{permit_of}
use Rattle.policy_compile.specs.Seen.{is_within}
use Rattle.policy_compile.proofs.compiled.local.Given as goal

abbrev pub invariant-loop-permit : goal.invariant-loop-permit
invariant-loop-permit l = (l.count ≡ length (filter (is_within l.graph.zones) (map permit_of (take l.permit-index l.permits)))) × (l.count ≤ l.permit-index)
