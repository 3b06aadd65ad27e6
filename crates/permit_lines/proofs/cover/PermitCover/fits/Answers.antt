use Rattle.std.proofs.Common.{◌≤◌, IsTrue, subst}
use Rattle.permit_lines.proofs.Counting.{line_count}
use Rattle.permit_lines.proofs.cover.PermitCover.fits.Goals as goal

pub returns : goal.returns
returns c =
    let within = c.is_product_within.result in
    subst (λ n. (IsTrue within → n ≤ c.args.room) × (n ≤ c.args.room → IsTrue within)) (line_count c.args.self.now c.items.result.now c.items-2.result.now c.items.ensures c.items-2.ensures)
    c.is_product_within.ensures
