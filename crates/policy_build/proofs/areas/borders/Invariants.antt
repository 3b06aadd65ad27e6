use Rattle.std.proofs.Common.{◌≡◌, map, flat_map, drop, ◌++◌}
use Rattle.spoc_ast.specs.Seen.{area_part_seen}
use Rattle.policy_decls.specs.Shapes.{borders_in}
use Rattle.policy_decls.specs.Said.{number_of_port}
use Rattle.policy_build.specs.Views.{decls_of}
use Rattle.policy_build.proofs.areas.borders.Given as goal

abbrev pub invariant-loop-part : goal.invariant-loop-part
invariant-loop-part l =
    map (λ i. i.0) l.found.items ++ flat_map (map (number_of_port (decls_of l.scope))) (flat_map borders_in (map area_part_seen (drop l.part-index l.parts)))
    ≡ flat_map (map (number_of_port (decls_of l.scope))) (flat_map borders_in (map area_part_seen l.parts))
