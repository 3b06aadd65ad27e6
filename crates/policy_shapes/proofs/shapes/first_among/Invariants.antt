use Rattle.std.proofs.Common.{◌≡◌, [], map, drop}
use Rattle.spoc_ast.specs.Seen.{decl_seen}
use Rattle.policy_shapes.specs.Keys.{has_key}
use Rattle.policy_shapes.specs.Rows.{first_by}
use Rattle.policy_shapes.proofs.shapes.first_among.Given as goal

abbrev pub invariant-loop-decl : goal.invariant-loop-decl
invariant-loop-decl l = first_by (map decl_seen l.policy) (has_key l.earlier) (map decl_seen (drop l.decl-index l.decls)) ≡ first_by (map decl_seen l.policy) (has_key []) (map decl_seen l.decls)
