-- The ports so far are those of the interfaces so far.
use Rattle.std.proofs.Common.{◌≡◌, take}
use Rattle.std.specs.Prelude.{map}
use Rattle.acl_print.specs.Seen.{port_seen}
use Rattle.topology.specs.View.{policy_of}
use Rattle.policy_outcome.specs.Files.{port_of}
use Rattle.device_files.proofs.router.ports.Given as goal

abbrev pub invariant-loop-i : goal.invariant-loop-i
invariant-loop-i l = map port_seen l.found.items ≡ map (port_of (policy_of l.topo)) (map (λ i. i.0) (take l.i-index l.row))
