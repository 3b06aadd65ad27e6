use Rattle.spoc_ast.specs.Seen as ast
use Rattle.policy_build.specs.Views.{decls_of}
use Rattle.policy_build.specs.Services.{rule_at}
use Rattle.policy_build.proofs.Goods.{rule_good}
use Rattle.policy_build.proofs.Grown.{more_twice_mapped}
use Rattle.policy_build.proofs.services.rules_of.Goals as goal

pub add_rule-requires-clause-good : goal.add_rule-requires-clause-good
add_rule-requires-clause-good c = rule_good c.args.rules.now c.loop-rule.rule-index _ c.loop-rule-test.true c.requires.good

pub loop-rule-preserved : goal.loop-rule-preserved
loop-rule-preserved c =
    more_twice_mapped (rule_at (decls_of c.args.by.scope) c.args.by.depth c.args.by.most) ast.rule_seen c.args.rules.now c.loop-rule.rule-index _ c.loop-rule-test.true _ _ _ c.loop-rule.invariant c.in_ok-add_rule.ensures
