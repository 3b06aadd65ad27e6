use Rattle.std.proofs.Common.{◌≡◌, map, flat_map, drop, ◌++◌}
use Rattle.std.specs.List.{All}
use Rattle.spoc_ast.specs.Seen.{rout_part_seen, word_seen}
use Rattle.topology.specs.Seen.{iface_seen}
use Rattle.policy_build.specs.Ifaces.{IsIfaceIn, ifaces_said_in}
use Rattle.policy_build.specs.Views.{decls_of, sources_in}
use Rattle.policy_build.proofs.ifaces.ifaces_of.Given as goal

abbrev pub invariant-loop-part : goal.invariant-loop-part
invariant-loop-part l = record {
  said : map (iface_seen (sources_in l.scope)) l.found.items ++ flat_map (ifaces_said_in (decls_of l.scope) (word_seen l.router)) (map rout_part_seen (drop l.part-index l.parts)) ≡ map (iface_seen (sources_in l.scope)) l.initial.found.items ++ flat_map (ifaces_said_in (decls_of l.scope) (word_seen l.router)) (map rout_part_seen l.parts);
  written : All (IsIfaceIn (sources_in l.scope) (decls_of l.scope)) l.found.items;
}
