use Rattle.std.proofs.Common.{◌≡◌, map, flat_map, drop, ◌++◌}
use Rattle.std.specs.List.{All}
use Rattle.spoc_ast.specs.Seen.{decl_seen}
use Rattle.policy_decls.specs.Said.{adds_of, restrictions_declared}
use Rattle.spoc_base.specs.declared.place.Kind.TheVariants as kind
use Rattle.topology.specs.Texts.{IsCalled}
use Rattle.topology.specs.Seen.{restriction_seen}
use Rattle.policy_build.specs.Views.{decls_of, sources_in}
use Rattle.policy_build.proofs.restrictions.declared.Given as goal

abbrev pub invariant-loop-decl : goal.invariant-loop-decl
invariant-loop-decl l = record {
  said : map (restriction_seen (sources_in l.scope)) l.found.items ++ flat_map (λ d. (adds_of (decls_of l.scope) d).restrictions) (map decl_seen (drop l.decl-index l.decl-items)) ≡ restrictions_declared (decls_of l.scope);
  written : All (λ x. IsCalled kind.Restriction (sources_in l.scope) x.name) l.found.items;
}
