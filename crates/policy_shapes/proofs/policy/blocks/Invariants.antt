use Rattle.std.proofs.Common.{◌≡◌, ◌++◌, map, drop, option_map}
use Rattle.spoc_ast.specs.Seen.{decl_seen}
use Rattle.policy_shapes.specs.Seen.{block_seen}
use Rattle.policy_shapes.specs.Policy.{own_prefixes}
use Rattle.policy_shapes.proofs.policy.blocks.Given as goal

abbrev pub invariant-loop-decl : goal.invariant-loop-decl
invariant-loop-decl l = map (option_map block_seen) l.found.items ++ own_prefixes (map decl_seen (drop l.decl-index l.decls)) ≡ own_prefixes (map decl_seen l.decls)
