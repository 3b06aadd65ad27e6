use Rattle.std.proofs.Common.{subst, sym, ap, ◌∙◌, map}
use Rattle.policy_model.specs.Optimised.{without_repeated}
use Rattle.policy_model.specs.Laws.{IsOptimised}
use Rattle.list_laws.proofs.Optimising.{is_optimised}
use Rattle.dev_config.specs.Seen.{lines_of, line_of}
use Rattle.local_optimise.proofs.Passes.{proper_lines}
use Rattle.local_optimise.proofs.list.optimise.Goals as goal

pub returns-clause-optimised : goal.returns-clause-optimised
returns-clause-optimised c =
    let old = c.args.list.now in
    let first = ap (map line_of) c.deref.ensures.value ∙ c.in_ok-uncovered.ensures in
    let second = ap (map line_of) c.deref-2.ensures.value ∙ (c.in_ok-left.ensures ∙ ap without_repeated first) in
    let is = ap (map line_of) c.in_ok-lines.ensures ∙ second in
    subst (IsOptimised (lines_of old)) (sym is) (is_optimised (lines_of old) (proper_lines old.lines.now))
