use Rattle.std.proofs.Common.{◌≡◌, ◌-◌, ◌∙◌, true, sym, subst, arith}
use Rattle.std.proofs.lemmas.Bool.{and_from}
use Rattle.policy_model.specs.Filters.{Line, line_covers}
use Rattle.dev_config.specs.Seen.{line_of}
use Rattle.local_optimise.specs.Keys.{suits, is_cover}
use Rattle.local_optimise.specs.Held.{held_by, line_at}
use Rattle.local_optimise.proofs.Places.{greatest_here}
use Rattle.local_optimise.proofs.shelf.Shelf.last_of_all.Goals as goal

pub returns-then-is_covering : goal.returns-then-is_covering
returns-then-is_covering c =
    let held = held_by c.args.self.now in
    let l = line_of c.args.line.now in
    let any = c.args.any in
    let n = c.loop-left.left in
    let m = line_of c.at-other.result.now in
    let t : is_cover any l m ≡ true = and_from (suits any l.permit m.permit) (line_covers m l) (sym c.is_suiting.ensures ∙ c.if-is_suiting.true) (sym c.is_covering.ensures ∙ c.if-is_covering.true) in
    sym (c.loop-left.invariant.same ∙ greatest_here (λ i. is_cover any l (line_at held i)) n (n - 1) (omega (arith, c.loop-left-test.true)) (subst (λ (x : Line). is_cover any l x ≡ true) c.at-other.ensures t))
