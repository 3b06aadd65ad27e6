-- What was read, and what is left.
use Rattle.std.proofs.Common.{ℕ, length, map}
use Rattle.acl_read.specs.Next.{IsScanned}
use Rattle.acl_read.specs.Seen.{port_at, fact_seen}
use Rattle.acl_read.proofs.file.scan.Given as goal

abbrev pub invariant-loop-rest : goal.invariant-loop-rest
invariant-loop-rest l = IsScanned l.dialect (map port_at l.ports) l.text (map fact_seen l.facts.items) l.rest

abbrev pub decreases-loop-rest : goal.decreases-loop-rest
decreases-loop-rest l = length l.rest
