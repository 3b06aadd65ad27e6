use Rattle.std.proofs.Common.{◌≡◌, flat_map, take}
use Rattle.permit_set.specs.Shown.{permit_of}
use Rattle.rule_distribute.specs.Rows.{net_arcs}
use Rattle.rule_distribute.proofs.joined.joined_nets.Given as goal

abbrev pub invariant-loop-q : goal.invariant-loop-q
invariant-loop-q l = l.pairs.items ≡ flat_map (λ q. net_arcs l.graph.zones (permit_of q)) (take l.q-index l.permits)
