use Rattle.std.proofs.Common.{◌≡◌, map, sym, subst}
use Rattle.std.proofs.lemmas.Result.{IfOk-weaker}
use Rattle.spoc_base.specs.Pieces.{difference}
use Rattle.piece_laws.specs.Differences.{IsDifference}
use Rattle.box_algebra.specs.Shown.{header_box_of}
use Rattle.piece_laws.proofs.Differences.{is_difference}
use Rattle.box_algebra.proofs.pieces.minus.Goals as goal

pub returns-clause-exact : goal.returns-clause-exact
returns-clause-exact c = λ first second.
    let a = header_box_of c.args.a.now in
    let b = header_box_of c.args.b.now in
    IfOk-weaker c.parts.result (λ v. map header_box_of v.items ≡ difference a b) (λ v. IsDifference a b (map header_box_of v.items))
    (λ v e. subst (IsDifference a b) (sym e) (is_difference a b (c.box_is_proper.ensures first) (c.box_is_proper-2.ensures second) c.requires.first_unmarked c.requires.second_unmarked))
    c.parts.ensures
