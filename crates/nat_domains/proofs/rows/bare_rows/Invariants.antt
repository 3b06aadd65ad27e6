use Rattle.nat_domains.specs.Rows.{tag_rows, AreBare}
use Rattle.nat_domains.proofs.rows.bare_rows.Given as goal

abbrev pub invariant-loop : goal.invariant-loop
invariant-loop l = AreBare (tag_rows l.rows.items) l.counter
