use Rattle.std.proofs.Common.{◌≡◌, map, flat_map, drop, ◌++◌}
use Rattle.std.specs.List.{All}
use Rattle.spoc_ast.specs.Seen.{decl_seen}
use Rattle.policy_decls.specs.Said.{adds_of, policy_said}
use Rattle.spoc_base.specs.declared.place.Kind.TheVariants as kind
use Rattle.topology.specs.Texts.{IsCalled}
use Rattle.topology.specs.Seen.{area_seen}
use Rattle.policy_build.specs.Views.{decls_of, sources_in}
use Rattle.policy_build.proofs.areas.areas.Given as goal

abbrev pub invariant-loop-decl : goal.invariant-loop-decl
invariant-loop-decl l = record {
  said : map (area_seen (sources_in l.scope)) l.found.items ++ flat_map (λ d. (adds_of (decls_of l.scope) d).areas) (map decl_seen (drop l.decl-index l.decl-items)) ≡ (policy_said (decls_of l.scope)).areas;
  written : All (λ x. IsCalled kind.Area (sources_in l.scope) x.name) l.found.items;
}
