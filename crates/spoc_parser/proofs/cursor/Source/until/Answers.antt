use Rattle.std.proofs.Common.{◌≡◌, ◌+◌, ◌-◌, [], length, ◌∙◌, sym, ap, arith, List, Bor, subst}
use Rattle.std.specs.List.{AllZip}
use Rattle.std.proofs.lemmas.List.{length-map, length_push}
use Rattle.std.proofs.lemmas.Result.{err_from_is_err_and}
use Rattle.spoc_lexer.specs.Seen.{seen}
use Rattle.spoc_parser.specs.Ends.{is_at}
use Rattle.spoc_parser.specs.Readers.{read_up_to}
use Rattle.spoc_parser.specs.Seen.{toks_of}
use Rattle.spoc_parser.proofs.Gathering.{at_start, until_err, until_more, until_end}
use Rattle.spoc_parser.proofs.cursor.Source.until.Goals as goal

pub loop-end-init : goal.loop-end-init
loop-end-init g c =
    let none = ap length c.new-found.ensures.items in
    record {
      shorter = omega (arith, none);
      read = at_start (AllZip (g.P.Part.is c.args.self.file)) (read_up_to (is_at c.args.end) g.P.Part.reads) c.new-found.result.items (length c.new-found.result.items) (toks_of c.args.tokens.now.rest.now) none (subst (AllZip (g.P.Part.is c.args.self.file) []) (sym c.new-found.ensures.items) tt);
    }

pub returns-in_err-part-clause-gives : goal.returns-in_err-part-clause-gives
returns-in_err-part-clause-gives g c =
    let m = length c.args.tokens.now.rest.now - length c.loop-end.found.items in
    let count : m + length c.loop-end.found.items ≡ length (toks_of c.args.tokens.now.rest.now) = omega (arith, c.loop-end.invariant.shorter, length-map c.args.tokens.now.rest.now seen) in
    let p = err_from_is_err_and c.from_residual.result c.from_residual.ensures.1 in
    rw (p.1, p.2) (until_err (is_at c.args.end) g.P.Part.reads (g.P.Part.is c.args.self.file) c.loop-end.found.items c.in_err-part.field-0.0 (toks_of c.args.tokens.now.rest.now) (toks_of c.loop-end.tokens.rest.now) (toks_of c.part.new.tokens.rest.now) m (sym c.is_at.ensures ∙ c.loop-end-test.true) count c.in_err-part.ensures.gives c.loop-end.invariant.read)

pub loop-end-preserved : goal.loop-end-preserved
loop-end-preserved g c =
    let size = ap length c.in_ok-push.ensures.items ∙ length_push c.loop-end.found.items c.in_ok-part.part in
    record {
      shorter = omega (arith, size, c.in_ok-part.ensures.shorter, c.loop-end.invariant.shorter);
      read = until_more (is_at c.args.end) g.P.Part.reads (g.P.Part.is c.args.self.file) c.loop-end.found.items c.push.new.self.items c.in_ok-part.part (toks_of c.args.tokens.now.rest.now) (toks_of c.loop-end.tokens.rest.now) (toks_of c.part.new.tokens.rest.now) (sym c.is_at.ensures ∙ c.loop-end-test.true) c.in_ok-push.ensures.items c.in_ok-part.ensures.gives c.loop-end.invariant.read;
    }

pub returns-clause-gives : goal.returns-clause-gives
returns-clause-gives g c =
    let n = length c.args.tokens.now.rest.now - length c.loop-end.found.items in
    let count : n + length c.loop-end.found.items ≡ length (toks_of c.args.tokens.now.rest.now) = omega (arith, c.loop-end.invariant.shorter, length-map c.args.tokens.now.rest.now seen) in
    until_end (is_at c.args.end) g.P.Part.reads (g.P.Part.is c.args.self.file) c.loop-end.found.items c.into_bump_slice.result (λ (b : Bor (List g.row.P.Denot)). b.now) (toks_of c.args.tokens.now.rest.now) (toks_of c.loop-end.tokens.rest.now) n c.into_bump_slice.ensures (sym c.is_at.ensures ∙ c.loop-end-test.false) count c.loop-end.invariant.read
