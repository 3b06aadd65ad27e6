use Rattle.std.proofs.Common.{◌≡◌, ◌+◌, ◌-◌, true, false, List, [], Bor, length, sym, ◌∙◌, ap, subst, arith}
use Rattle.std.specs.Prelude.{codes}
use Rattle.std.specs.List.{AllZip}
use Rattle.std.proofs.lemmas.List.{length-map, length_push}
use Rattle.std.proofs.lemmas.Result.{err_from_is_err_and}
use Rattle.spoc_ast.specs.declared.decl.RuleTree.{RuleTree}
use Rattle.spoc_lexer.specs.Seen.{seen}
use Rattle.spoc_parser.specs.Readers.{at_sign, read_up_to}
use Rattle.spoc_parser.specs.Reading.{read_set_in, read_rule}
use Rattle.spoc_parser.specs.Seen.{toks_of, IsSetIn}
use Rattle.spoc_parser.specs.SeenParts.{IsRule}
use Rattle.spoc_parser.proofs.Gathering.{at_start, until_err, until_more, until_end}
use Rattle.spoc_parser.proofs.cursor.Source.rule_run.Goals as goal

pub loop-self-init : goal.loop-self-init
loop-self-init c =
    let none = ap length c.new-found.ensures.items in
    record {
      shorter = omega (arith, none);
      read = at_start (AllZip (IsRule c.args.self.file (IsSetIn c.args.self.file c.args.depth))) (read_up_to (at_sign (codes "}")) (read_rule (read_set_in true c.args.depth false))) c.new-found.result.items (length c.new-found.result.items) (toks_of c.args.tokens.now.rest.now) none (subst (AllZip (IsRule c.args.self.file (IsSetIn c.args.self.file c.args.depth)) []) (sym c.new-found.ensures.items) tt);
    }

pub returns-in_err-rule-clause-gives : goal.returns-in_err-rule-clause-gives
returns-in_err-rule-clause-gives c =
    let m = length c.args.tokens.now.rest.now - length c.loop-self.found.items in
    let count : m + length c.loop-self.found.items ≡ length (toks_of c.args.tokens.now.rest.now) = omega (arith, c.loop-self.invariant.shorter, length-map c.args.tokens.now.rest.now seen) in
    let p = err_from_is_err_and c.from_residual.result c.from_residual.ensures.1 in
    rw (p.1, p.2) (until_err (at_sign (codes "}")) (read_rule (read_set_in true c.args.depth false)) (IsRule c.args.self.file (IsSetIn c.args.self.file c.args.depth)) c.loop-self.found.items c.in_err-rule.field-0.0 (toks_of c.args.tokens.now.rest.now) (toks_of c.loop-self.tokens.rest.now) (toks_of c.rule.new.tokens.rest.now) m (sym c.at_sign.ensures ∙ c.loop-self-test.true) count c.in_err-rule.ensures.gives c.loop-self.invariant.read)

pub loop-self-preserved : goal.loop-self-preserved
loop-self-preserved c =
    let size = ap length c.in_ok-push.ensures.items ∙ length_push c.loop-self.found.items c.in_ok-rule.rule in
    record {
      shorter = omega (arith, size, c.in_ok-rule.ensures.shorter, c.loop-self.invariant.shorter);
      read = until_more (at_sign (codes "}")) (read_rule (read_set_in true c.args.depth false)) (IsRule c.args.self.file (IsSetIn c.args.self.file c.args.depth)) c.loop-self.found.items c.push.new.self.items c.in_ok-rule.rule (toks_of c.args.tokens.now.rest.now) (toks_of c.loop-self.tokens.rest.now) (toks_of c.rule.new.tokens.rest.now) (sym c.at_sign.ensures ∙ c.loop-self-test.true) c.in_ok-push.ensures.items c.in_ok-rule.ensures.gives c.loop-self.invariant.read;
    }

pub returns-clause-gives : goal.returns-clause-gives
returns-clause-gives c =
    let n = length c.args.tokens.now.rest.now - length c.loop-self.found.items in
    let count : n + length c.loop-self.found.items ≡ length (toks_of c.args.tokens.now.rest.now) = omega (arith, c.loop-self.invariant.shorter, length-map c.args.tokens.now.rest.now seen) in
    until_end (at_sign (codes "}")) (read_rule (read_set_in true c.args.depth false)) (IsRule c.args.self.file (IsSetIn c.args.self.file c.args.depth)) c.loop-self.found.items c.into_bump_slice.result (λ (b : Bor (List RuleTree)). b.now) (toks_of c.args.tokens.now.rest.now) (toks_of c.loop-self.tokens.rest.now) n c.into_bump_slice.ensures (sym c.at_sign.ensures ∙ c.loop-self-test.false) count c.loop-self.invariant.read
