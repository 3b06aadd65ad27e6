use Rattle.std.proofs.Common.{◌≡◌, map, flat_map, drop, nat_lt}
use Rattle.std.specs.List.{list_any}
use Rattle.spoc_ast.specs.Seen.{host_part_seen}
use Rattle.policy_decls.specs.Shapes as shapes
use Rattle.policy_shapes.proofs.network.any_reversed.Given as goal

abbrev pub invariant-loop-part : goal.invariant-loop-part
invariant-loop-part l = list_any (λ r. nat_lt r.1 r.0) (flat_map shapes.spans_in (map host_part_seen (drop l.part-index l.host))) ≡ list_any (λ r. nat_lt r.1 r.0) (flat_map shapes.spans_in (map host_part_seen l.host))
