use Rattle.std.proofs.Common.{◌≡◌, ◌+◌, ◌-◌, suc, List, [], ◌∷◌, ◌++◌, Bor, length, ◌∙◌, sym, ap, arith, subst}
use Rattle.std.specs.List.{AllZip}
use Rattle.std.specs.Prelude.{codes}
use Rattle.std.proofs.lemmas.List.{length-map, length_push}
use Rattle.std.proofs.lemmas.Result.{err_from_is_err_and}
use Rattle.spoc_lexer.specs.Seen.{seen}
use Rattle.spoc_parser.specs.Ends.{closes}
use Rattle.spoc_parser.specs.Readers.{at_sign, past, read_commas}
use Rattle.spoc_parser.specs.Seen.{toks_of, Behind}
use Rattle.spoc_parser.proofs.Gathering.{at_start, behind_nil, commas_err, commas_more, commas_closed, commas_end, taken_is, left_is}
use Rattle.spoc_parser.proofs.cursor.Source.further.Goals as goal

pub loop-tokens-init : goal.loop-tokens-init
loop-tokens-init g c =
    let is = c.in_ok-push.ensures.items ∙ ap (λ l. l ++ (c.args.first ∷ [])) c.new-found.ensures.items in
    let one = ap length is in
    record {
      some = omega (arith, one);
      shorter = omega (arith, one);
      read = at_start (λ xs ys. Behind (c.args.first ∷ []) (AllZip (g.P.Part.is c.args.self.file) xs) ys) (read_commas (closes c.args.may_close) g.P.Part.reads) c.push.new.self.items (length c.push.new.self.items - 1) (toks_of c.args.tokens.now.rest.now) (omega (arith, one)) (subst (Behind (c.args.first ∷ []) (AllZip (g.P.Part.is c.args.self.file) [])) (sym is) (behind_nil (g.P.Part.is c.args.self.file) (c.args.first ∷ [])));
    }

pub returns-then-closes-clause-gives : goal.returns-then-closes-clause-gives
returns-then-closes-clause-gives g c =
    let m = length c.args.tokens.now.rest.now - (length c.loop-tokens.found.items - 1) - 1 in
    let less = c.take_sign.ensures.shorter c.loop-tokens-test.true in
    let count : suc m + (length c.loop-tokens.found.items - 1) ≡ length (toks_of c.args.tokens.now.rest.now) = omega (arith, less, c.loop-tokens.invariant.shorter, c.loop-tokens.invariant.some, length-map c.args.tokens.now.rest.now seen) in
    commas_closed (closes c.args.may_close) g.P.Part.reads (g.P.Part.is c.args.self.file) (c.args.first ∷ []) c.loop-tokens.found.items c.into_bump_slice.result (λ (b : Bor (List g.row.P.Denot)). b.now) (toks_of c.args.tokens.now.rest.now) (toks_of c.loop-tokens.tokens.rest.now) (toks_of c.take_sign.new.self.rest.now) (length c.loop-tokens.found.items - 1) m c.into_bump_slice.ensures (sym c.take_sign.ensures.which ∙ c.loop-tokens-test.true) (taken_is (at_sign (codes ",") (toks_of c.loop-tokens.tokens.rest.now)) c.take_sign.result (past (toks_of c.loop-tokens.tokens.rest.now)) (toks_of c.loop-tokens.tokens.rest.now) (toks_of c.take_sign.new.self.rest.now) c.take_sign.ensures.which c.loop-tokens-test.true c.take_sign.ensures.left) (sym c.closes.ensures ∙ c.if-closes.true) count c.loop-tokens.invariant.read

pub returns-in_err-part-clause-gives : goal.returns-in_err-part-clause-gives
returns-in_err-part-clause-gives g c =
    let m = length c.args.tokens.now.rest.now - (length c.loop-tokens.found.items - 1) in
    let count : m + (length c.loop-tokens.found.items - 1) ≡ length (toks_of c.args.tokens.now.rest.now) = omega (arith, c.loop-tokens.invariant.shorter, c.loop-tokens.invariant.some, length-map c.args.tokens.now.rest.now seen) in
    let p = err_from_is_err_and c.from_residual-in_err-part.result c.from_residual-in_err-part.ensures.1 in
    rw (p.1, p.2) (commas_err (closes c.args.may_close) g.P.Part.reads (g.P.Part.is c.args.self.file) (c.args.first ∷ []) c.loop-tokens.found.items c.in_err-part.field-0.0 (toks_of c.args.tokens.now.rest.now) (toks_of c.loop-tokens.tokens.rest.now) (toks_of c.take_sign.new.self.rest.now) (toks_of c.part.new.tokens.rest.now) (length c.loop-tokens.found.items - 1) m (sym c.take_sign.ensures.which ∙ c.loop-tokens-test.true) (taken_is (at_sign (codes ",") (toks_of c.loop-tokens.tokens.rest.now)) c.take_sign.result (past (toks_of c.loop-tokens.tokens.rest.now)) (toks_of c.loop-tokens.tokens.rest.now) (toks_of c.take_sign.new.self.rest.now) c.take_sign.ensures.which c.loop-tokens-test.true c.take_sign.ensures.left) (sym c.closes.ensures ∙ c.if-closes.false) count c.in_err-part.ensures.gives c.loop-tokens.invariant.read)

pub loop-tokens-preserved : goal.loop-tokens-preserved
loop-tokens-preserved g c =
    let less = c.take_sign.ensures.shorter c.loop-tokens-test.true in
    let size = ap length c.in_ok-push-2.ensures.items ∙ length_push c.loop-tokens.found.items c.in_ok-part.part in
    record {
      some = omega (arith, size, c.loop-tokens.invariant.some);
      shorter = omega (arith, size, less, c.in_ok-part.ensures.shorter, c.loop-tokens.invariant.shorter);
      read = commas_more (closes c.args.may_close) g.P.Part.reads (g.P.Part.is c.args.self.file) (c.args.first ∷ []) c.loop-tokens.found.items c.push-in-loop-tokens.new.self.items c.in_ok-part.part (toks_of c.args.tokens.now.rest.now) (toks_of c.loop-tokens.tokens.rest.now) (toks_of c.take_sign.new.self.rest.now) (toks_of c.part.new.tokens.rest.now) (length c.loop-tokens.found.items - 1) (length c.push-in-loop-tokens.new.self.items - 1) (sym c.take_sign.ensures.which ∙ c.loop-tokens-test.true) (taken_is (at_sign (codes ",") (toks_of c.loop-tokens.tokens.rest.now)) c.take_sign.result (past (toks_of c.loop-tokens.tokens.rest.now)) (toks_of c.loop-tokens.tokens.rest.now) (toks_of c.take_sign.new.self.rest.now) c.take_sign.ensures.which c.loop-tokens-test.true c.take_sign.ensures.left) (sym c.closes.ensures ∙ c.if-closes.false) (omega (arith, size, c.loop-tokens.invariant.some)) c.in_ok-push-2.ensures.items c.in_ok-part.ensures.gives c.loop-tokens.invariant.read;
    }

pub returns-clause-gives : goal.returns-clause-gives
returns-clause-gives g c =
    let n = length c.args.tokens.now.rest.now - (length c.loop-tokens.found.items - 1) in
    let count : n + (length c.loop-tokens.found.items - 1) ≡ length (toks_of c.args.tokens.now.rest.now) = omega (arith, c.loop-tokens.invariant.shorter, c.loop-tokens.invariant.some, length-map c.args.tokens.now.rest.now seen) in
    commas_end (closes c.args.may_close) g.P.Part.reads (g.P.Part.is c.args.self.file) (c.args.first ∷ []) c.loop-tokens.found.items c.into_bump_slice-2.result (λ (b : Bor (List g.row.P.Denot)). b.now) (toks_of c.args.tokens.now.rest.now) (toks_of c.loop-tokens.tokens.rest.now) (toks_of c.take_sign.new.self.rest.now) (length c.loop-tokens.found.items - 1) n c.into_bump_slice-2.ensures (sym c.take_sign.ensures.which ∙ c.loop-tokens-test.false) (left_is (at_sign (codes ",") (toks_of c.loop-tokens.tokens.rest.now)) c.take_sign.result (past (toks_of c.loop-tokens.tokens.rest.now)) (toks_of c.loop-tokens.tokens.rest.now) (toks_of c.take_sign.new.self.rest.now) c.take_sign.ensures.which c.loop-tokens-test.false c.take_sign.ensures.left) count c.loop-tokens.invariant.read
