use Rattle.std.proofs.Common.{◌≡◌, ◌+◌, ◌-◌, suc, true, List, [], ◌∷◌, ◌++◌, Ok, Err, Bor, length, ◌∙◌, sym, ap, arith, refl, subst}
use Rattle.std.specs.Prelude.{codes, not}
use Rattle.std.specs.List.{AllZip}
use Rattle.std.proofs.lemmas.List.{length-map, length_push}
use Rattle.std.proofs.lemmas.Result.{err_from_is_err_and}
use Rattle.spoc_ast.specs.declared.set.SetTree.{out-SetTree}
use Rattle.spoc_ast.specs.declared.set.InterTree.{InterTree}
use Rattle.spoc_ast.specs.declared.set.FurtherTree.{FurtherTree}
use Rattle.spoc_lexer.specs.Seen.{seen}
use Rattle.spoc_parser.specs.Readers.{at_sign, past, read_sign, read_commas, read_up_to, read_unless, read_further, list_ends}
use Rattle.spoc_parser.specs.Reading.{read_term, read_inter, read_other, read_others, no_other, read_set_in, read_inside, no_prefix, past_mark}
use Rattle.spoc_parser.specs.Seen.{toks_of, Gives, Behind, IsWord, IsPerhaps, IsFurther, IsInter, IsSetIn, IsTerm}
use Rattle.spoc_parser.proofs.Gathering.{at_start, behind_nil, until_err, until_more, until_end, commas_err, commas_more, commas_closed, commas_end, taken_is, left_is, listed_gives, then_ok, then_next, then_err, gives_as, gives_err}
use Rattle.spoc_parser.proofs.Levels.{set_gives}
use Rattle.spoc_parser.proofs.cursor.Source.+terms.Goals as goal

pub anys-returns-in_err-sign-2-clause-gives : goal.anys-returns-in_err-sign-2-clause-gives
anys-returns-in_err-sign-2-clause-gives t c =
    let p = err_from_is_err_and c.from_residual-in_err-sign-2.result c.from_residual-in_err-sign-2.ensures.1 in
    rw (p.1, p.2) (then_next (λ a x. a ≡ x) c.in_ok-sign.field-0 c.in_err-sign-2.field-0.0 (toks_of c.sign.new.self.rest.now) (read_sign (codes "[") (toks_of c.args.tokens.now.rest.now)) _ c.in_ok-sign.ensures.gives (λ _.
    then_next (IsPerhaps (IsWord c.args.self.file)) c.in_ok-inside.inside c.in_err-sign-2.field-0.0 (toks_of c.inside.new.tokens.rest.now) (read_unless no_prefix read_inside (toks_of c.sign.new.self.rest.now)) _ c.in_ok-inside.ensures.gives (λ _.
    then_next (IsSetIn c.args.self.file c.args.depth) c.in_ok-set.set c.in_err-sign-2.field-0.0 (toks_of c.set.new.tokens.rest.now) (read_set_in c.args.scope.user c.args.depth true (toks_of c.inside.new.tokens.rest.now)) _ (subst (λ u. Gives (IsSetIn c.args.self.file c.args.depth) (Ok c.in_ok-set.set) (toks_of c.set.new.tokens.rest.now) (read_set_in u c.args.depth true (toks_of c.inside.new.tokens.rest.now))) c.inside-2.ensures.user (subst (λ a. Gives (IsSetIn c.args.self.file c.args.depth) (Ok c.in_ok-set.set) (toks_of c.set.new.tokens.rest.now) (read_set_in c.inside-2.result.user c.args.depth a (toks_of c.inside.new.tokens.rest.now))) c.inside-2.ensures.area c.in_ok-set.ensures.gives)) (λ _.
    then_err c.in_err-sign-2.field-0.0 (read_sign (codes "]") (toks_of c.set.new.tokens.rest.now)) _ c.in_err-sign-2.ensures.gives))))

pub inter-returns-in_err-first-clause-gives : goal.inter-returns-in_err-first-clause-gives
inter-returns-in_err-first-clause-gives t c =
    let p = err_from_is_err_and c.from_residual.result c.from_residual.ensures.1 in
    rw (p.1, p.2) (then_err c.in_err-first.field-0.0 ((read_term c.args.scope.user c.args.depth c.args.scope.area) (toks_of c.args.tokens.now.rest.now)) _ c.in_err-first.ensures.gives)

pub inter-returns-in_err-rest-clause-gives : goal.inter-returns-in_err-rest-clause-gives
inter-returns-in_err-rest-clause-gives t c =
    let p = err_from_is_err_and c.from_residual-in_err-rest.result c.from_residual-in_err-rest.ensures.1 in
    rw (p.1, p.2) (then_next (IsTerm c.args.self.file c.args.depth) c.in_ok-first.first c.in_err-rest.field-0.0 (toks_of c.term.new.tokens.rest.now) ((read_term c.args.scope.user c.args.depth c.args.scope.area) (toks_of c.args.tokens.now.rest.now)) _ c.in_ok-first.ensures.gives (λ _.
    then_err c.in_err-rest.field-0.0 (read_others (read_term c.args.scope.user c.args.depth c.args.scope.area) (toks_of c.term.new.tokens.rest.now)) _ c.in_err-rest.ensures.gives))

pub inter-returns-clause-gives : goal.inter-returns-clause-gives
inter-returns-clause-gives t c =
    then_ok (IsTerm c.args.self.file c.args.depth) (IsInter (IsTerm c.args.self.file c.args.depth)) c.in_ok-first.first (Ok c.inter_of.result) (toks_of c.term.new.tokens.rest.now) (toks_of c.others.new.tokens.rest.now) ((read_term c.args.scope.user c.args.depth c.args.scope.area) (toks_of c.args.tokens.now.rest.now)) _ c.in_ok-first.ensures.gives λ a held.
    then_ok (λ xs (ys : Bor (List FurtherTree)). AllZip (IsFurther (IsTerm c.args.self.file c.args.depth)) xs ys.now) (IsInter (IsTerm c.args.self.file c.args.depth)) c.in_ok-rest.rest (Ok c.inter_of.result) (toks_of c.others.new.tokens.rest.now) (toks_of c.others.new.tokens.rest.now) (read_others (read_term c.args.scope.user c.args.depth c.args.scope.area) (toks_of c.term.new.tokens.rest.now)) _ c.in_ok-rest.ensures.gives λ xs all.
    ((subst ((IsTerm c.args.self.file c.args.depth) a) (sym c.inter_of.ensures.first) held, subst (AllZip (IsFurther (IsTerm c.args.self.file c.args.depth)) xs) (sym c.inter_of.ensures.rest) all), refl)

pub other-returns-clause-gives : goal.other-returns-clause-gives
other-returns-clause-gives t c =
    then_ok (λ a x. a ≡ x) (IsFurther (IsTerm c.args.self.file c.args.depth)) c.in_ok-sign.field-0 _ (toks_of c.sign.new.self.rest.now) (toks_of c.signed.new.tokens.rest.now) (read_sign (codes "&") (toks_of c.args.tokens.now.rest.now)) _ c.in_ok-sign.ensures.gives λ _ _. c.signed.ensures.gives

pub signed-returns-in_err-term-clause-gives : goal.signed-returns-in_err-term-clause-gives
signed-returns-in_err-term-clause-gives t c =
    let p = err_from_is_err_and c.from_residual.result c.from_residual.ensures.1 in
    rw (p.1, p.2) (then_err c.in_err-term.field-0.0 ((read_term c.args.scope.user c.args.depth c.args.scope.area) (past_mark (toks_of c.args.tokens.now.rest.now))) _ (subst (λ m. Gives (IsTerm c.args.self.file c.args.depth) (Err c.in_err-term.field-0.0) (toks_of c.term.new.tokens.rest.now) ((read_term c.args.scope.user c.args.depth c.args.scope.area) m)) c.take_sign-without.ensures.left c.in_err-term.ensures.gives))

pub signed-returns-clause-gives : goal.signed-returns-clause-gives
signed-returns-clause-gives t c =
    then_ok (IsTerm c.args.self.file c.args.depth) (IsFurther (IsTerm c.args.self.file c.args.depth)) c.in_ok-term.term (Ok (record { without = c.take_sign-without.result; term = c.in_ok-term.term })) (toks_of c.term.new.tokens.rest.now) (toks_of c.term.new.tokens.rest.now) ((read_term c.args.scope.user c.args.depth c.args.scope.area) (past_mark (toks_of c.args.tokens.now.rest.now))) _ (subst (λ m. Gives (IsTerm c.args.self.file c.args.depth) (Ok c.in_ok-term.term) (toks_of c.term.new.tokens.rest.now) ((read_term c.args.scope.user c.args.depth c.args.scope.area) m)) c.take_sign-without.ensures.left c.in_ok-term.ensures.gives) λ a held. ((c.take_sign-without.ensures.which, held), refl)

pub set-returns-clause-gives : goal.set-returns-clause-gives
set-returns-clause-gives t c = set_gives c.args.self.file c.args.scope.user c.args.scope.area c.args.depth c.inters.result (toks_of c.inters.new.tokens.rest.now) (toks_of c.args.tokens.now.rest.now) c.if-depth-eq0.false c.inters.ensures.gives

pub inters-returns-in_err-first-clause-gives : goal.inters-returns-in_err-first-clause-gives
inters-returns-in_err-first-clause-gives t c =
    let p = err_from_is_err_and c.from_residual.result c.from_residual.ensures.1 in
    rw (p.1, p.2) (then_err c.in_err-first.field-0.0 (read_inter (read_term c.args.scope.user c.args.depth c.args.scope.area) (toks_of c.args.tokens.now.rest.now)) _ c.in_err-first.ensures.gives)

pub inters-returns-in_err-inters-clause-gives : goal.inters-returns-in_err-inters-clause-gives
inters-returns-in_err-inters-clause-gives t c =
    let p = err_from_is_err_and c.from_residual-in_err-inters.result c.from_residual-in_err-inters.ensures.1 in
    rw (p.1, p.2) (then_next (IsInter (IsTerm c.args.self.file c.args.depth)) c.in_ok-first.first c.in_err-inters.field-0.0 (toks_of c.inter.new.tokens.rest.now) (read_inter (read_term c.args.scope.user c.args.depth c.args.scope.area) (toks_of c.args.tokens.now.rest.now)) _ c.in_ok-first.ensures.gives (λ _.
    gives_err c.in_err-inters.field-0.0 (read_further list_ends (read_inter (read_term c.args.scope.user c.args.depth c.args.scope.area)) (toks_of c.inter.new.tokens.rest.now)) _ c.in_err-inters.ensures.gives (λ none. rw none refl)))

pub inters-returns-clause-gives : goal.inters-returns-clause-gives
inters-returns-clause-gives t c =
    gives_as (AllZip (IsInter (IsTerm c.args.self.file c.args.depth))) (λ (b : Bor (List InterTree)). b.now) c.in_ok-inters.inters (λ tree. (out-SetTree tree).inters.now) c.set_of.result (toks_of c.more_inters.new.tokens.rest.now) _ c.set_of.ensures
    (listed_gives list_ends (read_inter (read_term c.args.scope.user c.args.depth c.args.scope.area)) (IsInter (IsTerm c.args.self.file c.args.depth)) c.in_ok-first.first (c.in_ok-first.first ∷ []) (Ok c.in_ok-inters.inters) (λ (b : Bor (List InterTree)). b.now) (toks_of c.args.tokens.now.rest.now) (toks_of c.inter.new.tokens.rest.now) (toks_of c.more_inters.new.tokens.rest.now) refl c.in_ok-first.ensures.gives c.in_ok-inters.ensures.gives)

pub others-loop-scope-init : goal.others-loop-scope-init
others-loop-scope-init t c =
    let none = ap length c.new-found.ensures.items in
    record {
      shorter = omega (arith, none);
      read = at_start (AllZip (IsFurther (IsTerm c.args.self.file c.args.depth))) (read_up_to no_other (read_other (read_term c.args.scope.user c.args.depth c.args.scope.area))) c.new-found.result.items (length c.new-found.result.items) (toks_of c.args.tokens.now.rest.now) none (subst (AllZip (IsFurther (IsTerm c.args.self.file c.args.depth)) []) (sym c.new-found.ensures.items) tt);
    }

pub others-returns-in_err-other-clause-gives : goal.others-returns-in_err-other-clause-gives
others-returns-in_err-other-clause-gives t c =
    let m = length c.args.tokens.now.rest.now - length c.loop-scope.found.items in
    let count : m + length c.loop-scope.found.items ≡ length (toks_of c.args.tokens.now.rest.now) = omega (arith, c.loop-scope.invariant.shorter, length-map c.args.tokens.now.rest.now seen) in
    let p = err_from_is_err_and c.from_residual.result c.from_residual.ensures.1 in
    rw (p.1, p.2) (until_err no_other (read_other (read_term c.args.scope.user c.args.depth c.args.scope.area)) (IsFurther (IsTerm c.args.self.file c.args.depth)) c.loop-scope.found.items c.in_err-other.field-0.0 (toks_of c.args.tokens.now.rest.now) (toks_of c.loop-scope.tokens.rest.now) (toks_of c.other.new.tokens.rest.now) m (ap not (sym c.at_sign.ensures ∙ c.loop-scope-test.true)) count c.in_err-other.ensures.gives c.loop-scope.invariant.read)

pub others-loop-scope-preserved : goal.others-loop-scope-preserved
others-loop-scope-preserved t c =
    let size = ap length c.in_ok-push.ensures.items ∙ length_push c.loop-scope.found.items c.in_ok-other.other in
    record {
      shorter = omega (arith, size, c.in_ok-other.ensures.shorter, c.loop-scope.invariant.shorter);
      read = until_more no_other (read_other (read_term c.args.scope.user c.args.depth c.args.scope.area)) (IsFurther (IsTerm c.args.self.file c.args.depth)) c.loop-scope.found.items c.push.new.self.items c.in_ok-other.other (toks_of c.args.tokens.now.rest.now) (toks_of c.loop-scope.tokens.rest.now) (toks_of c.other.new.tokens.rest.now) (ap not (sym c.at_sign.ensures ∙ c.loop-scope-test.true)) c.in_ok-push.ensures.items c.in_ok-other.ensures.gives c.loop-scope.invariant.read;
    }

pub others-returns-clause-gives : goal.others-returns-clause-gives
others-returns-clause-gives t c =
    let n = length c.args.tokens.now.rest.now - length c.loop-scope.found.items in
    let count : n + length c.loop-scope.found.items ≡ length (toks_of c.args.tokens.now.rest.now) = omega (arith, c.loop-scope.invariant.shorter, length-map c.args.tokens.now.rest.now seen) in
    until_end no_other (read_other (read_term c.args.scope.user c.args.depth c.args.scope.area)) (IsFurther (IsTerm c.args.self.file c.args.depth)) c.loop-scope.found.items c.into_bump_slice.result (λ (b : Bor (List FurtherTree)). b.now) (toks_of c.args.tokens.now.rest.now) (toks_of c.loop-scope.tokens.rest.now) n c.into_bump_slice.ensures (ap not (sym c.at_sign.ensures ∙ c.loop-scope-test.false)) count c.loop-scope.invariant.read

pub more_inters-loop-scope-init : goal.more_inters-loop-scope-init
more_inters-loop-scope-init t c =
    let is = c.in_ok-push.ensures.items ∙ ap (λ l. l ++ (c.args.first ∷ [])) c.new-found.ensures.items in
    let one = ap length is in
    record {
      some = omega (arith, one);
      shorter = omega (arith, one);
      read = at_start (λ xs ys. Behind (c.args.first ∷ []) (AllZip (IsInter (IsTerm c.args.self.file c.args.depth)) xs) ys) (read_commas list_ends (read_inter (read_term c.args.scope.user c.args.depth c.args.scope.area))) c.push.new.self.items (length c.push.new.self.items - 1) (toks_of c.args.tokens.now.rest.now) (omega (arith, one)) (subst (Behind (c.args.first ∷ []) (AllZip (IsInter (IsTerm c.args.self.file c.args.depth)) [])) (sym is) (behind_nil (IsInter (IsTerm c.args.self.file c.args.depth)) (c.args.first ∷ [])));
    }

pub more_inters-returns-then-at_list_end-clause-gives : goal.more_inters-returns-then-at_list_end-clause-gives
more_inters-returns-then-at_list_end-clause-gives t c =
    let m = length c.args.tokens.now.rest.now - (length c.loop-scope.found.items - 1) - 1 in
    let less = c.take_sign.ensures.shorter c.loop-scope-test.true in
    let count : suc m + (length c.loop-scope.found.items - 1) ≡ length (toks_of c.args.tokens.now.rest.now) = omega (arith, less, c.loop-scope.invariant.shorter, c.loop-scope.invariant.some, length-map c.args.tokens.now.rest.now seen) in
    commas_closed list_ends (read_inter (read_term c.args.scope.user c.args.depth c.args.scope.area)) (IsInter (IsTerm c.args.self.file c.args.depth)) (c.args.first ∷ []) c.loop-scope.found.items c.into_bump_slice.result (λ (b : Bor (List InterTree)). b.now) (toks_of c.args.tokens.now.rest.now) (toks_of c.loop-scope.tokens.rest.now) (toks_of c.take_sign.new.self.rest.now) (length c.loop-scope.found.items - 1) m c.into_bump_slice.ensures (sym c.take_sign.ensures.which ∙ c.loop-scope-test.true) (taken_is (at_sign (codes ",") (toks_of c.loop-scope.tokens.rest.now)) c.take_sign.result (past (toks_of c.loop-scope.tokens.rest.now)) (toks_of c.loop-scope.tokens.rest.now) (toks_of c.take_sign.new.self.rest.now) c.take_sign.ensures.which c.loop-scope-test.true c.take_sign.ensures.left) (sym c.at_list_end.ensures ∙ c.if-at_list_end.true) count c.loop-scope.invariant.read

pub more_inters-returns-in_err-part-clause-gives : goal.more_inters-returns-in_err-part-clause-gives
more_inters-returns-in_err-part-clause-gives t c =
    let m = length c.args.tokens.now.rest.now - (length c.loop-scope.found.items - 1) in
    let count : m + (length c.loop-scope.found.items - 1) ≡ length (toks_of c.args.tokens.now.rest.now) = omega (arith, c.loop-scope.invariant.shorter, c.loop-scope.invariant.some, length-map c.args.tokens.now.rest.now seen) in
    let p = err_from_is_err_and c.from_residual-in_err-part.result c.from_residual-in_err-part.ensures.1 in
    rw (p.1, p.2) (commas_err list_ends (read_inter (read_term c.args.scope.user c.args.depth c.args.scope.area)) (IsInter (IsTerm c.args.self.file c.args.depth)) (c.args.first ∷ []) c.loop-scope.found.items c.in_err-part.field-0.0 (toks_of c.args.tokens.now.rest.now) (toks_of c.loop-scope.tokens.rest.now) (toks_of c.take_sign.new.self.rest.now) (toks_of c.inter.new.tokens.rest.now) (length c.loop-scope.found.items - 1) m (sym c.take_sign.ensures.which ∙ c.loop-scope-test.true) (taken_is (at_sign (codes ",") (toks_of c.loop-scope.tokens.rest.now)) c.take_sign.result (past (toks_of c.loop-scope.tokens.rest.now)) (toks_of c.loop-scope.tokens.rest.now) (toks_of c.take_sign.new.self.rest.now) c.take_sign.ensures.which c.loop-scope-test.true c.take_sign.ensures.left) (sym c.at_list_end.ensures ∙ c.if-at_list_end.false) count c.in_err-part.ensures.gives c.loop-scope.invariant.read)

pub more_inters-loop-scope-preserved : goal.more_inters-loop-scope-preserved
more_inters-loop-scope-preserved t c =
    let less = c.take_sign.ensures.shorter c.loop-scope-test.true in
    let size = ap length c.in_ok-push-2.ensures.items ∙ length_push c.loop-scope.found.items c.in_ok-part.part in
    record {
      some = omega (arith, size, c.loop-scope.invariant.some);
      shorter = omega (arith, size, less, c.in_ok-part.ensures.shorter, c.loop-scope.invariant.shorter);
      read = commas_more list_ends (read_inter (read_term c.args.scope.user c.args.depth c.args.scope.area)) (IsInter (IsTerm c.args.self.file c.args.depth)) (c.args.first ∷ []) c.loop-scope.found.items c.push-in-loop-scope.new.self.items c.in_ok-part.part (toks_of c.args.tokens.now.rest.now) (toks_of c.loop-scope.tokens.rest.now) (toks_of c.take_sign.new.self.rest.now) (toks_of c.inter.new.tokens.rest.now) (length c.loop-scope.found.items - 1) (length c.push-in-loop-scope.new.self.items - 1) (sym c.take_sign.ensures.which ∙ c.loop-scope-test.true) (taken_is (at_sign (codes ",") (toks_of c.loop-scope.tokens.rest.now)) c.take_sign.result (past (toks_of c.loop-scope.tokens.rest.now)) (toks_of c.loop-scope.tokens.rest.now) (toks_of c.take_sign.new.self.rest.now) c.take_sign.ensures.which c.loop-scope-test.true c.take_sign.ensures.left) (sym c.at_list_end.ensures ∙ c.if-at_list_end.false) (omega (arith, size, c.loop-scope.invariant.some)) c.in_ok-push-2.ensures.items c.in_ok-part.ensures.gives c.loop-scope.invariant.read;
    }

pub more_inters-returns-clause-gives : goal.more_inters-returns-clause-gives
more_inters-returns-clause-gives t c =
    let n = length c.args.tokens.now.rest.now - (length c.loop-scope.found.items - 1) in
    let count : n + (length c.loop-scope.found.items - 1) ≡ length (toks_of c.args.tokens.now.rest.now) = omega (arith, c.loop-scope.invariant.shorter, c.loop-scope.invariant.some, length-map c.args.tokens.now.rest.now seen) in
    commas_end list_ends (read_inter (read_term c.args.scope.user c.args.depth c.args.scope.area)) (IsInter (IsTerm c.args.self.file c.args.depth)) (c.args.first ∷ []) c.loop-scope.found.items c.into_bump_slice-2.result (λ (b : Bor (List InterTree)). b.now) (toks_of c.args.tokens.now.rest.now) (toks_of c.loop-scope.tokens.rest.now) (toks_of c.take_sign.new.self.rest.now) (length c.loop-scope.found.items - 1) n c.into_bump_slice-2.ensures (sym c.take_sign.ensures.which ∙ c.loop-scope-test.false) (left_is (at_sign (codes ",") (toks_of c.loop-scope.tokens.rest.now)) c.take_sign.result (past (toks_of c.loop-scope.tokens.rest.now)) (toks_of c.loop-scope.tokens.rest.now) (toks_of c.take_sign.new.self.rest.now) c.take_sign.ensures.which c.loop-scope-test.false c.take_sign.ensures.left) count c.loop-scope.invariant.read
