use Rattle.std.proofs.Common.{◌≡◌, map, flat_map, drop}
use Rattle.policy_model.specs.Lists.{is_nothing}
use Rattle.spoc_ast.specs.Seen.{rout_part_seen}
use Rattle.policy_decls.specs.Lookup.{routings_in}
use Rattle.policy_build.proofs.routers.has_routing.Given as goal

abbrev pub invariant-loop-part : goal.invariant-loop-part
invariant-loop-part l =
    is_nothing (flat_map routings_in (map rout_part_seen l.parts)) ≡ is_nothing (flat_map routings_in (map rout_part_seen (drop l.part-index l.parts)))
