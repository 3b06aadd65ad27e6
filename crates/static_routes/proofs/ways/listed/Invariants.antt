use Rattle.std.proofs.Common.{◌≡◌, ◌++◌}
use Rattle.static_routes.proofs.ways.listed.Given as goal

abbrev pub invariant-loop-way : goal.invariant-loop-way
invariant-loop-way l = l.list.items ++ l.way-iterator ≡ l.ways.keys
