use Rattle.std.proofs.Common.{◌≡◌, map, flat_map, drop, ◌++◌}
use Rattle.std.specs.List.{All}
use Rattle.spoc_ast.specs.Seen.{decl_seen}
use Rattle.spoc_base.specs.declared.place.Kind.TheVariants as kind
use Rattle.topology.specs.Texts.{IsCalled}
use Rattle.topology.specs.Seen.{service_seen}
use Rattle.policy_build.specs.Services.{services_at}
use Rattle.policy_build.specs.Views.{decls_of, sources_in}
use Rattle.policy_build.proofs.services.services_by.Given as goal

abbrev pub invariant-loop-decl : goal.invariant-loop-decl
invariant-loop-decl l = record {
  said : map (service_seen (sources_in l.by.scope)) l.found.items ++ flat_map (services_at (decls_of l.by.scope) l.by.depth l.by.most) (map decl_seen (drop l.decl-index l.decl-items)) ≡ flat_map (services_at (decls_of l.by.scope) l.by.depth l.by.most) (decls_of l.by.scope);
  written : All (λ x. IsCalled kind.Service (sources_in l.by.scope) x.name) l.found.items;
}
