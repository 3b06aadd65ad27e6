use Rattle.std.proofs.Common.{◌≡◌, map, flat_map, drop, ◌++◌}
use Rattle.std.specs.List.{All}
use Rattle.spoc_ast.specs.Seen.{net_part_seen}
use Rattle.policy_decls.specs.Said.{hosts_said}
use Rattle.spoc_base.specs.declared.place.Kind.TheVariants as kind
use Rattle.topology.specs.Texts.{IsCalled}
use Rattle.topology.specs.Seen.{host_seen}
use Rattle.policy_build.specs.Views.{sources_in}
use Rattle.policy_build.proofs.hosts.hosts_of.Given as goal

abbrev pub invariant-loop-part : goal.invariant-loop-part
invariant-loop-part l = record {
  said : map (host_seen (sources_in l.scope)) l.found.items ++ flat_map (hosts_said l.net.0) (map net_part_seen (drop l.part-index l.parts)) ≡ map (host_seen (sources_in l.scope)) l.initial.found.items ++ flat_map (hosts_said l.net.0) (map net_part_seen l.parts);
  written : All (λ x. IsCalled kind.Host (sources_in l.scope) x.name) l.found.items;
}
