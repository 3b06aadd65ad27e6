use Rattle.std.proofs.Common.{◌≡◌, map, drop, ◌++◌}
use Rattle.spoc_ast.specs.Seen.{file_seen, decl_seen}
use Rattle.policy_decls.specs.Names.{declared_names}
use Rattle.policy_names.specs.Seen.{mention_seen}
use Rattle.policy_names.proofs.collect.add_file.Given as goal

abbrev pub invariant-loop-decl : goal.invariant-loop-decl
invariant-loop-decl l =
    map mention_seen l.found.items ++ declared_names (map decl_seen (drop l.decl-index l.decl-items)) ≡ map mention_seen l.initial.found.items ++ declared_names (file_seen l.file)
