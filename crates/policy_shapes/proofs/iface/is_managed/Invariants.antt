use Rattle.std.proofs.Common.{◌≡◌, map, drop}
use Rattle.spoc_ast.specs.Seen.{rout_part_seen}
use Rattle.policy_decls.specs.Lookup as plain
use Rattle.policy_shapes.proofs.iface.is_managed.Given as goal

abbrev pub invariant-loop-part : goal.invariant-loop-part
invariant-loop-part l = plain.is_managed_router (map rout_part_seen (drop l.part-index l.parts)) ≡ plain.is_managed_router (map rout_part_seen l.parts)
