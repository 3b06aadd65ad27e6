use Rattle.std.proofs.Common.{◌≡◌, ◌∙◌, ◌<◌, ◌≤◌, ap, sym, ⊎_elim, arith}
use Rattle.std.specs.Prelude.{[]}
use Rattle.std.proofs.lemmas.Bool.{cases_lt, false≢true}
use Rattle.std.proofs.lemmas.List.{get_or-map}
use Rattle.nat_view.specs.Places.{tags_at}
use Rattle.nat_view.specs.Shown.{numbers_of, tags_of}
use Rattle.nat_view.proofs.Placing.{same_items}
use Rattle.nat_view.proofs.build.find.Goals as goal

pub loop-k-preserved : goal.loop-k-preserved
loop-k-preserved c = λ k h e.
    let tables = c.args.tables.now in
    let n = c.loop-k.k in
    ⊎_elim
    (λ (lt : k < n). c.loop-k.invariant k lt e)
    (λ (le : n ≤ k).
    let at : k ≡ n = omega (arith, h, le) in
    let row = get_or-map tags_of tables n c.index-tables-k.result [] c.loop-k-test.true in
    let same : numbers_of c.deref.result.now ≡ numbers_of c.args.tags.now = ap numbers_of c.deref.ensures.value ∙ (sym row ∙ (ap (tags_at tables) (sym at) ∙ e)) in
    false≢true (sym c.if-same_tags.false ∙ c.same_tags.ensures.1 (same_items c.deref.result.now c.args.tags.now same)))
    (cases_lt k n)
