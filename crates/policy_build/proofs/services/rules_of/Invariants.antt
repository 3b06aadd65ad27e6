use Rattle.std.proofs.Common.{◌≡◌, map, drop, ◌++◌}
use Rattle.spoc_ast.specs.Seen as ast
use Rattle.topology.specs.Seen.{rule_seen}
use Rattle.policy_build.specs.Services.{rule_at}
use Rattle.policy_build.specs.Views.{decls_of}
use Rattle.policy_build.proofs.services.rules_of.Given as goal

abbrev pub invariant-loop-rule : goal.invariant-loop-rule
invariant-loop-rule l =
    map rule_seen l.found.items ++ map (rule_at (decls_of l.by.scope) l.by.depth l.by.most) (map ast.rule_seen (drop l.rule-index l.rules)) ≡ map (rule_at (decls_of l.by.scope) l.by.depth l.by.most) (map ast.rule_seen l.rules)
