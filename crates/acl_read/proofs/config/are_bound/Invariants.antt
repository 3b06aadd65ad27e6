-- The ports left are bound exactly if all are.
use Rattle.std.proofs.Common.{◌≡◌, map, drop}
use Rattle.acl_read.specs.Seen.{port_at, fact_seen, every_bound}
use Rattle.acl_read.proofs.config.are_bound.Given as goal

abbrev pub invariant-loop-port : goal.invariant-loop-port
invariant-loop-port l = every_bound (map port_at l.ports) (map fact_seen l.all) ≡ every_bound (map port_at (drop l.port-index l.ports)) (map fact_seen l.all)
