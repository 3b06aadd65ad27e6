use Rattle.std.proofs.Common.{◌≡◌, map, flat_map, drop, ◌++◌}
use Rattle.spoc_ast.specs.Seen.{if_part_seen}
use Rattle.policy_decls.specs.Lookup.{binds_in}
use Rattle.policy_decls.specs.Said.{number_of_tag}
use Rattle.policy_build.specs.Views.{decls_of}
use Rattle.policy_build.proofs.ifaces.binds.Given as goal

abbrev pub invariant-loop-part : goal.invariant-loop-part
invariant-loop-part l =
    map (λ tag. tag.0) l.found.items ++ flat_map (map (number_of_tag (decls_of l.scope))) (flat_map binds_in (map if_part_seen (drop l.part-index l.parts)))
    ≡ flat_map (map (number_of_tag (decls_of l.scope))) (flat_map binds_in (map if_part_seen l.parts))
