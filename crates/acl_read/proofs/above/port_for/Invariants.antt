-- The best port so far and the ports left give what all of them give.
use Rattle.std.proofs.Common.{◌≡◌, ◌++◌, map, filter, drop}
use Rattle.std.specs.Prelude.{option_map, option_to_list}
use Rattle.spoc_base.specs.Address.{prefix_holds}
use Rattle.policy_model.specs.Places.{longest_by}
use Rattle.device_reading.specs.Grammar as plain
use Rattle.acl_read.specs.Seen.{port_at}
use Rattle.acl_read.proofs.above.port_for.Given as goal

abbrev pub invariant-loop-port : goal.invariant-loop-port
invariant-loop-port l =
    plain.port_for (map port_at l.ports) l.a.0
    ≡ longest_by (λ p. p.connected.len) (option_to_list (option_map port_at l.best) ++ filter (λ p. prefix_holds p.connected l.a.0) (map port_at (drop l.port-index l.ports)))
