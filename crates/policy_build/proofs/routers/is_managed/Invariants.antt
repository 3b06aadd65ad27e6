use Rattle.std.proofs.Common.{◌≡◌, map, drop}
use Rattle.spoc_ast.specs.Seen.{rout_part_seen}
use Rattle.policy_decls.specs.Lookup.{is_managed_router}
use Rattle.policy_build.proofs.routers.is_managed.Given as goal

abbrev pub invariant-loop-part : goal.invariant-loop-part
invariant-loop-part l = is_managed_router (map rout_part_seen l.parts) ≡ is_managed_router (map rout_part_seen (drop l.part-index l.parts))
