use Rattle.std.proofs.Common.{◌≡◌, ◌∙◌, ◌||◌, sym, ap, true, false}
use Rattle.std.specs.List.{list_any}
use Rattle.policy_names.specs.Seen.{decls_of}
use Rattle.policy_nesting.proofs.Deep.{nesting_deep}
use Rattle.policy_nesting.proofs.depth.nest_deep.Goals as goal

pub returns-then-deep : goal.returns-then-deep
returns-then-deep c =
    let objects = c.in_ok-objects.objects in
    let protocols = c.in_ok-protocols.protocols in
    let some : list_any (λ flag. flag) objects.deep.items ≡ true = ap (list_any (λ flag. flag)) (sym c.deref.ensures.value) ∙ sym c.any_flag-deep.ensures ∙ c.if-deep.true in
    sym (ap (λ b. b || list_any (λ flag. flag) protocols.deep.items) some)
    ∙ nesting_deep (decls_of c.args.files.now) c.args.depth c.requires.named objects.rows.items objects.deep.items c.in_ok-objects.ensures.graph protocols.rows.items protocols.deep.items c.in_ok-protocols.ensures.graph

pub returns : goal.returns
returns c =
    let objects = c.in_ok-objects.objects in
    let protocols = c.in_ok-protocols.protocols in
    let none : list_any (λ flag. flag) objects.deep.items ≡ false = ap (list_any (λ flag. flag)) (sym c.deref.ensures.value) ∙ sym c.any_flag-deep.ensures ∙ c.if-deep.false in
    c.any_flag.ensures ∙ ap (list_any (λ flag. flag)) c.deref-2.ensures.value ∙ sym (ap (λ b. b || list_any (λ flag. flag) protocols.deep.items) none)
    ∙ nesting_deep (decls_of c.args.files.now) c.args.depth c.requires.named objects.rows.items objects.deep.items c.in_ok-objects.ensures.graph protocols.rows.items protocols.deep.items c.in_ok-protocols.ensures.graph
