use Rattle.std.proofs.Common.{◌≡◌, ℕ, subst, arith}
use Rattle.nat_domains.specs.Rows.{tag_rows, AreBare}
use Rattle.nat_domains.proofs.Listing.{one_more_bare}
use Rattle.nat_domains.proofs.rows.bare_rows.Goals as goal

pub loop-preserved : goal.loop-preserved
loop-preserved c = one_more_bare c.loop.rows.items c.push.new.self.items c.new-row.result c.loop.counter c.in_ok-push.ensures.items c.new-row.ensures.items c.loop.invariant

pub returns : goal.returns
returns c =
    let e : c.loop.counter ≡ c.args.count = omega (arith, c.loop-test.false, c.loop.auto.counter-end) in
    subst (λ (n : ℕ). AreBare (tag_rows c.loop.rows.items) n) e c.loop.invariant
