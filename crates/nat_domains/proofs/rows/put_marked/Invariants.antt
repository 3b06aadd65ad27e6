use Rattle.nat_domains.specs.Rows.{tag_rows}
use Rattle.nat_domains.proofs.Listing.{ArePutBelow}
use Rattle.std.proofs.Common.{◌≡◌, length}
use Rattle.nat_domains.proofs.rows.put_marked.Given as goal

abbrev pub invariant-loop-k : goal.invariant-loop-k
invariant-loop-k l = record {
  count : length l.rows ≡ length l.fn.rows;
  put : ArePutBelow l.tag.0 l.marks (tag_rows l.fn.rows) (tag_rows l.rows) l.k;
}
