use Rattle.std.proofs.Common.{◌∙◌, ap, map, take}
use Rattle.spoc_ast.specs.Seen as ast
use Rattle.policy_build.specs.Views.{decls_of}
use Rattle.policy_build.proofs.Fairness.{fair_prts}
use Rattle.policy_build.proofs.services.rule_of.Goals as goal

pub returns : goal.returns
returns c = λ i. record {
  deny = c.args.rule.now.deny;
  src = c.in_ok-src.ensures i;
  dst = c.in_ok-dst.ensures i;
  boxes = (c.in_ok-prts.ensures ∙ ap (take c.args.by.most) (fair_prts (decls_of c.args.by.scope) c.requires.fair c.args.by.depth (map ast.prt_seen c.args.rule.now.prts.now) c.requires.good.2)) i;
}
