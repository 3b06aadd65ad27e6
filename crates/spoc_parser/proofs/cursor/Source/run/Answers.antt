use Rattle.std.proofs.Common.{◌≡◌, ◌+◌, ◌-◌, List, [], Bor, length, sym, ◌∙◌, ap, subst, arith}
use Rattle.std.specs.List.{AllZip}
use Rattle.std.proofs.lemmas.List.{length-map, length_push}
use Rattle.spoc_ast.specs.declared.decl.Decl.{Decl}
use Rattle.spoc_lexer.specs.Seen.{seen}
use Rattle.spoc_parser.specs.Reading.{read_decl_in}
use Rattle.spoc_parser.specs.Files.{read_run}
use Rattle.spoc_parser.specs.Seen.{toks_of, IsSetIn}
use Rattle.spoc_parser.specs.SeenParts.{IsDecl}
use borrow.Author.Tests.{eqb-true}
use Rattle.spoc_parser.proofs.Running.{run_more, run_end, fails_none, empty_none}
use Rattle.spoc_parser.proofs.Gathering.{at_start}
use Rattle.spoc_parser.proofs.cursor.Source.run.Goals as goal

pub loop-left-init : goal.loop-left-init
loop-left-init c =
    let none = ap length c.new-found.ensures.items in
    record {
      shorter = omega (arith, none);
      read = at_start (AllZip (IsDecl c.args.self.file (IsSetIn c.args.self.file c.args.depth))) (read_run (read_decl_in c.args.depth)) c.new-found.result.items (length c.new-found.result.items) (toks_of c.args.tokens.now.rest.now) none (subst (AllZip (IsDecl c.args.self.file (IsSetIn c.args.self.file c.args.depth)) []) (sym c.new-found.ensures.items) tt);
    }

pub loop-left-preserved : goal.loop-left-preserved
loop-left-preserved c =
    let size = ap length c.in_ok-push-in-Ok.ensures.items ∙ length_push c.loop-left.found.items c.in-Ok.decl in
    record {
      shorter = omega (arith, size, c.in-Ok.ensures.shorter, c.loop-left.invariant.shorter);
      read = run_more (read_decl_in c.args.depth) (IsDecl c.args.self.file (IsSetIn c.args.self.file c.args.depth)) c.loop-left.found.items c.push.new.self.items c.in-Ok.decl (toks_of c.args.tokens.now.rest.now) (toks_of c.loop-left.tokens.rest.now) (toks_of c.decl.new.tokens.rest.now) c.in_ok-push-in-Ok.ensures.items c.in-Ok.ensures.gives c.loop-left.invariant.read;
    }

pub returns-in-Err-Unread-clause-ran : goal.returns-in-Err-Unread-clause-ran
returns-in-Err-Unread-clause-ran c =
    let n = length c.args.tokens.now.rest.now - length c.loop-left.found.items in
    let count : n + length c.loop-left.found.items ≡ length (toks_of c.args.tokens.now.rest.now) = omega (arith, c.loop-left.invariant.shorter, length-map c.args.tokens.now.rest.now seen) in
    run_end (read_decl_in c.args.depth) (IsDecl c.args.self.file (IsSetIn c.args.self.file c.args.depth)) c.loop-left.found.items c.into_bump_slice.result (λ (b : Bor (List Decl)). b.now) (toks_of c.args.tokens.now.rest.now) (toks_of c.loop-left.tokens.rest.now) n c.into_bump_slice.ensures (fails_none c.in-Err-Unread.field-0 _ c.in-Err-Unread.field-0-is c.in-Err-Unread.ensures.gives) count c.loop-left.invariant.read

pub returns-clause-ran : goal.returns-clause-ran
returns-clause-ran c =
    let none : length (toks_of c.loop-left.tokens.rest.now) ≡ 0 = length-map c.loop-left.tokens.rest.now seen ∙ eqb-true _ _ (sym c.loop-left-test.ensures) in
    let n = length c.args.tokens.now.rest.now - length c.loop-left.found.items in
    let count : n + length c.loop-left.found.items ≡ length (toks_of c.args.tokens.now.rest.now) = omega (arith, c.loop-left.invariant.shorter, length-map c.args.tokens.now.rest.now seen) in
    run_end (read_decl_in c.args.depth) (IsDecl c.args.self.file (IsSetIn c.args.self.file c.args.depth)) c.loop-left.found.items c.into_bump_slice-2.result (λ (b : Bor (List Decl)). b.now) (toks_of c.args.tokens.now.rest.now) (toks_of c.loop-left.tokens.rest.now) n c.into_bump_slice-2.ensures (empty_none c.args.depth (toks_of c.loop-left.tokens.rest.now) none) count c.loop-left.invariant.read
