use Rattle.std.proofs.Common.{◌≡◌, ◌++◌, map, flat_map, drop}
use Rattle.spoc_ast.specs.Seen.{word_seen, rout_part_seen}
use Rattle.policy_decls.specs.Lookup as plain
use Rattle.policy_shapes.specs.Seen.{iface_seen}
use Rattle.policy_shapes.proofs.iface.add_ifaces.Given as goal

abbrev pub invariant-loop-part : goal.invariant-loop-part
invariant-loop-part l =
    map iface_seen l.found.items ++ flat_map (plain.ifaces_in_part (word_seen l.router) l.managed) (map rout_part_seen (drop l.part-index l.parts))
    ≡ map iface_seen l.initial.found.items ++ flat_map (plain.ifaces_in_part (word_seen l.router) l.managed) (map rout_part_seen l.parts)
