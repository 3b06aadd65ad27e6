-- The best entry so far and the entries left give what all of them give.
use Rattle.std.proofs.Common.{◌≡◌, map, drop, ◌++◌}
use Rattle.std.specs.Prelude.{option_map}
use Rattle.dev_config.specs.Seen.{found_entry, port_entry, route_entry, entries_of, looked_up, looked_up_from}
use Rattle.dev_config.proofs.table.lookup.Given as goal

abbrev pub invariant-loop-port : goal.invariant-loop-port
invariant-loop-port l =
    looked_up (entries_of l.ports l.config) l.dest.0
    ≡ looked_up_from (option_map found_entry l.best) (map port_entry (drop l.port-index l.ports) ++ map route_entry l.config.routes.now) l.dest.0

abbrev pub invariant-loop-route : goal.invariant-loop-route
invariant-loop-route l =
    looked_up (entries_of l.ports l.config) l.dest.0 ≡ looked_up_from (option_map found_entry l.best) (map route_entry (drop l.route-index l.config.routes.now)) l.dest.0
