use Rattle.std.proofs.Common.{◌≡◌, map, drop, ◌++◌}
use Rattle.std.specs.List.{All}
use Rattle.spoc_ast.specs.Seen.{decl_seen}
use Rattle.policy_decls.specs.Lookup.{declared_ifaces}
use Rattle.policy_decls.specs.Said.{iface_said, policy_said}
use Rattle.topology.specs.Seen.{iface_seen}
use Rattle.policy_build.specs.Ifaces.{IsIfaceIn}
use Rattle.policy_build.specs.Views.{decls_of, sources_in}
use Rattle.policy_build.proofs.ifaces.ifaces.Given as goal

abbrev pub invariant-loop-decl : goal.invariant-loop-decl
invariant-loop-decl l = record {
  said : map (iface_seen (sources_in l.scope)) l.found.items ++ map (iface_said (decls_of l.scope)) (declared_ifaces (map decl_seen (drop l.decl-index l.decl-items))) ≡ (policy_said (decls_of l.scope)).ifaces;
  written : All (IsIfaceIn (sources_in l.scope) (decls_of l.scope)) l.found.items;
}
