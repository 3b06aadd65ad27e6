use Rattle.std.proofs.Common.{◌≡◌, ◌++◌, map, drop}
use Rattle.spoc_ast.specs.Seen.{file_seen, decl_seen}
use Rattle.policy_decls.specs.Nesting.{nesting_names}
use Rattle.policy_names.specs.Seen.{mention_seen}
use Rattle.policy_nesting.proofs.nodes.add_nodes.Given as goal

abbrev pub invariant-loop-decl : goal.invariant-loop-decl
invariant-loop-decl l =
    map mention_seen l.found.items ++ nesting_names (map decl_seen (drop l.decl-index l.decl-items)) ≡ map mention_seen l.initial.found.items ++ nesting_names (file_seen l.file)
