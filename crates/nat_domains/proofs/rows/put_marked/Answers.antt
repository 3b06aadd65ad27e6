use Rattle.std.proofs.Common.{◌≤◌, ◌∙◌, length, refl, arith}
use Rattle.nat_domains.specs.Rows.{tag_rows}
use Rattle.nat_domains.proofs.Listing.{nothing_put, one_put, all_put}
use Rattle.nat_domains.proofs.rows.put_marked.Goals as goal

pub loop-k-init : goal.loop-k-init
loop-k-init c = record { count = refl; put = nothing_put c.args.tag.0 c.args.marks.now (tag_rows c.args.rows.now) }

pub loop-k-preserved : goal.loop-k-preserved
loop-k-preserved c =
    record {
      count = c.put_if.ensures.count ∙ c.loop-k.invariant.count;
      put = one_put c.args.tag.0 c.args.marks.now (tag_rows c.args.rows.now) (tag_rows c.loop-k.rows) (tag_rows c.put_if.new.rows) c.loop-k.k c.in_ok-put_if.ensures.put c.loop-k.invariant.put;
    }

pub returns-clause-put : goal.returns-clause-put
returns-clause-put c =
    let high : length c.args.rows.now ≤ c.loop-k.k = omega (arith, c.loop-k-test.false, c.requires) in
    all_put c.args.tag.0 c.args.marks.now c.args.rows.now c.loop-k.rows c.loop-k.k c.loop-k.invariant.count high c.loop-k.invariant.put
