use Rattle.std.proofs.Common.{◌≡◌, ◌+◌, ◌-◌, List, Bor, length, ◌∙◌, sym, ap, arith, refl}
use Rattle.std.specs.List.{AllZip}
use Rattle.std.specs.Prelude.{codes}
use Rattle.std.proofs.lemmas.List.{length-map, length_push}
use Rattle.std.proofs.lemmas.Result.{err_from_is_err_and}
use Rattle.spoc_ast.specs.declared.word.Word.{Word}
use Rattle.spoc_lexer.specs.Seen.{seen}
use Rattle.spoc_parser.specs.Readers.{at_sign, past, read_commas, read_word, never_ends}
use Rattle.spoc_parser.specs.Seen.{toks_of, Behind, IsWord}
use Rattle.spoc_parser.proofs.Gathering.{at_start, behind_nil, commas_err, commas_more, commas_end, taken_is, left_is}
use Rattle.spoc_parser.proofs.cursor.Source.more_words.Goals as goal

pub loop-form-init : goal.loop-form-init
loop-form-init c =
    record {
      some = omega arith;
      shorter = omega arith;
      read = at_start (λ xs ys. Behind c.args.before.items (AllZip (IsWord c.args.self.file) xs) ys) (read_commas never_ends (read_word c.args.form)) c.args.before.items (length c.args.before.items - length c.args.before.items) (toks_of c.args.tokens.now.rest.now) (omega arith) (behind_nil (IsWord c.args.self.file) c.args.before.items);
    }

pub returns-in_err-word-clause-gives : goal.returns-in_err-word-clause-gives
returns-in_err-word-clause-gives c =
    let m = length c.args.tokens.now.rest.now - (length c.loop-form.found.items - length c.args.before.items) in
    let count : m + (length c.loop-form.found.items - length c.args.before.items) ≡ length (toks_of c.args.tokens.now.rest.now) = omega (arith, c.loop-form.invariant.shorter, c.loop-form.invariant.some, length-map c.args.tokens.now.rest.now seen) in
    let p = err_from_is_err_and c.from_residual.result c.from_residual.ensures.1 in
    rw (p.1, p.2) (commas_err never_ends (read_word c.args.form) (IsWord c.args.self.file) c.args.before.items c.loop-form.found.items c.in_err-word.field-0.0 (toks_of c.args.tokens.now.rest.now) (toks_of c.loop-form.tokens.rest.now) (toks_of c.take_sign.new.self.rest.now) (toks_of c.word.new.tokens.rest.now) (length c.loop-form.found.items - length c.args.before.items) m (sym c.take_sign.ensures.which ∙ c.loop-form-test.true) (taken_is (at_sign (codes ",") (toks_of c.loop-form.tokens.rest.now)) c.take_sign.result (past (toks_of c.loop-form.tokens.rest.now)) (toks_of c.loop-form.tokens.rest.now) (toks_of c.take_sign.new.self.rest.now) c.take_sign.ensures.which c.loop-form-test.true c.take_sign.ensures.left) refl count c.in_err-word.ensures.gives c.loop-form.invariant.read)

pub loop-form-preserved : goal.loop-form-preserved
loop-form-preserved c =
    let less = c.take_sign.ensures.shorter c.loop-form-test.true in
    let size = ap length c.in_ok-push.ensures.items ∙ length_push c.loop-form.found.items c.in_ok-word.word in
    record {
      some = omega (arith, size, c.loop-form.invariant.some);
      shorter = omega (arith, size, less, c.in_ok-word.ensures.shorter, c.loop-form.invariant.shorter);
      read = commas_more never_ends (read_word c.args.form) (IsWord c.args.self.file) c.args.before.items c.loop-form.found.items c.push.new.self.items c.in_ok-word.word (toks_of c.args.tokens.now.rest.now) (toks_of c.loop-form.tokens.rest.now) (toks_of c.take_sign.new.self.rest.now) (toks_of c.word.new.tokens.rest.now) (length c.loop-form.found.items - length c.args.before.items) (length c.push.new.self.items - length c.args.before.items) (sym c.take_sign.ensures.which ∙ c.loop-form-test.true) (taken_is (at_sign (codes ",") (toks_of c.loop-form.tokens.rest.now)) c.take_sign.result (past (toks_of c.loop-form.tokens.rest.now)) (toks_of c.loop-form.tokens.rest.now) (toks_of c.take_sign.new.self.rest.now) c.take_sign.ensures.which c.loop-form-test.true c.take_sign.ensures.left) refl (omega (arith, size, c.loop-form.invariant.some)) c.in_ok-push.ensures.items c.in_ok-word.ensures.gives c.loop-form.invariant.read;
    }

pub returns-clause-gives : goal.returns-clause-gives
returns-clause-gives c =
    let n = length c.args.tokens.now.rest.now - (length c.loop-form.found.items - length c.args.before.items) in
    let count : n + (length c.loop-form.found.items - length c.args.before.items) ≡ length (toks_of c.args.tokens.now.rest.now) = omega (arith, c.loop-form.invariant.shorter, c.loop-form.invariant.some, length-map c.args.tokens.now.rest.now seen) in
    commas_end never_ends (read_word c.args.form) (IsWord c.args.self.file) c.args.before.items c.loop-form.found.items c.into_bump_slice.result (λ (b : Bor (List Word)). b.now) (toks_of c.args.tokens.now.rest.now) (toks_of c.loop-form.tokens.rest.now) (toks_of c.take_sign.new.self.rest.now) (length c.loop-form.found.items - length c.args.before.items) n c.into_bump_slice.ensures (sym c.take_sign.ensures.which ∙ c.loop-form-test.false) (left_is (at_sign (codes ",") (toks_of c.loop-form.tokens.rest.now)) c.take_sign.result (past (toks_of c.loop-form.tokens.rest.now)) (toks_of c.loop-form.tokens.rest.now) (toks_of c.take_sign.new.self.rest.now) c.take_sign.ensures.which c.loop-form-test.false c.take_sign.ensures.left) count c.loop-form.invariant.read
