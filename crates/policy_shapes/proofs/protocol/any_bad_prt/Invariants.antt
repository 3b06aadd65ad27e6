use Rattle.std.proofs.Common.{◌≡◌, map, drop}
use Rattle.std.specs.List.{list_any}
use Rattle.spoc_ast.specs.Seen.{prt_seen}
use Rattle.policy_decls.specs.Shapes as shapes
use Rattle.policy_shapes.proofs.protocol.any_bad_prt.Given as goal

abbrev pub invariant-loop-prt : goal.invariant-loop-prt
invariant-loop-prt l = list_any shapes.is_bad_prt (map prt_seen (drop l.prt-index l.prts)) ≡ list_any shapes.is_bad_prt (map prt_seen l.prts)
