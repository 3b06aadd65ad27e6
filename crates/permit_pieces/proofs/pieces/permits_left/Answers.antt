use Rattle.std.proofs.Common.{◌≡◌, ◌∙◌, [], ◌∷◌, ap, map, flat_map, take}
use Rattle.std.proofs.lemmas.Result.{IfOk-weaker}
use Rattle.policy_model.specs.Permits.{pieces_left_by}
use Rattle.permit_set.specs.Shown.{permit_of}
use Rattle.permit_pieces.specs.Left.{left_between}
use Rattle.permit_pieces.specs.Rows.{table_of}
use Rattle.permit_pieces.proofs.Leaving.{all_left}
use Rattle.permit_pieces.proofs.pieces.permits_left.Goals as goal

pub returns : goal.returns
returns c =
    let permits = map permit_of c.args.permits.now in
    let denials = map permit_of c.args.denials.now in
    let table = table_of c.in_ok-rows.rows in
    IfOk-weaker c.left_by_rows.result (λ found. map permit_of found.items ≡ take c.args.most (flat_map (left_between table) permits))
    (λ found. map permit_of found.items ≡ take c.args.most (flat_map (λ q. pieces_left_by denials (q ∷ [])) permits))
    (λ found is. is ∙ ap (take c.args.most) (all_left denials table c.in_ok-rows.ensures permits)) c.left_by_rows.ensures
