use Rattle.std.proofs.Common.{◌≡◌, map, flat_map, drop, ◌++◌}
use Rattle.std.specs.List.{All}
use Rattle.policy_decls.specs.Said.{policy_said}
use Rattle.topology.specs.Kept.{IsImpliedWritten}
use Rattle.topology.specs.Seen.{restriction_seen}
use Rattle.policy_build.specs.Views.{decls_of, sources_in}
use Rattle.policy_build.specs.Sharing.{begun_by}
use Rattle.policy_build.proofs.sharing.sets.Given as goal

abbrev pub invariant-loop-i : goal.invariant-loop-i
invariant-loop-i l = record {
  said : map (restriction_seen (sources_in l.scope)) l.found.items ++ flat_map (begun_by (policy_said (decls_of l.scope))) (map (λ i. i.0) (drop l.i-index l.order)) ≡ flat_map (begun_by (policy_said (decls_of l.scope))) (map (λ i. i.0) l.order);
  written : All (IsImpliedWritten (sources_in l.scope) (policy_said (decls_of l.scope))) l.found.items;
}
