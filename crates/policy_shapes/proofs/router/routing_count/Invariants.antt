use Rattle.std.proofs.Common.{◌≡◌, ◌+◌, ◌≤◌, length, map, flat_map, drop}
use Rattle.spoc_ast.specs.Seen.{rout_part_seen}
use Rattle.policy_decls.specs.Lookup as plain
use Rattle.policy_shapes.proofs.router.routing_count.Given as goal

abbrev pub invariant-loop-part : goal.invariant-loop-part
invariant-loop-part l = record {
  counted : l.count + length (flat_map plain.routings_in (map rout_part_seen (drop l.part-index l.parts))) ≡ length (flat_map plain.routings_in (map rout_part_seen l.parts));
  within : l.count ≤ l.part-index;
}
