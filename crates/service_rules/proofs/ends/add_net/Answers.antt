use Rattle.std.proofs.Common.{◌∙◌, ℕ, map, ap, arith, length}
use Rattle.std.specs.Prelude.{◌==◌}
use Rattle.spoc_base.specs.declared.ids.NetId.{NetId}
use Rattle.policy_model.specs.Permits.{net_end}
use Rattle.policy_model.specs.Zones.{zone_of, nets_in}
use Rattle.topology.specs.View.{policy_of}
use Rattle.permit_set.specs.Shown.{end_of}
use Rattle.group_expand.proofs.Gathering.{row_below}
use Rattle.service_rules.specs.Scope.{site_in}
use Rattle.service_rules.proofs.EndLists.{ends_pushed, net_first, nested_on, nested_end}
use Rattle.service_rules.proofs.ends.add_net.Goals as goal

pub loop-m-init : goal.loop-m-init
loop-m-init c =
    let s = site_in c.args.scope.now in
    net_first s c.args.n.0 (map end_of c.args.found.now.items) (map end_of c.push.new.self.items) (map (λ m. m.0) c.nets-row.result.now)
    (ends_pushed c.args.found.now.items c.push.new.self.items c.net_end.result (net_end s.policy c.args.n.0) c.in_ok-push.ensures.items c.net_end.ensures)
    (c.nets-row.ensures ∙ (c.requires.scope.graph.nets_are c.zone_of.result.0 (omega (arith, c.zone_of.ensures, c.requires.scope.graph.numbers.below c.args.n.0 (omega (arith, c.requires.there, c.requires.scope.graph.table.each)))) ∙ ap (λ (z : ℕ). nets_in s z) c.zone_of.ensures))

pub add_nested-requires-clause-inner : goal.add_nested-requires-clause-inner
add_nested-requires-clause-inner c =
    let s = site_in c.args.scope.now in
    let low = row_below (λ (n : NetId). n.0) (λ n. zone_of s n == c.zone_of.result.0) (length s.zones) c.nets-row.result.now _ c.nets-row.ensures (c.requires.scope.graph.nets_are c.zone_of.result.0 (omega (arith, c.zone_of.ensures, c.requires.scope.graph.numbers.below c.args.n.0 (omega (arith, c.requires.there, c.requires.scope.graph.table.each)))))
    c.loop-m.m-index (record { 0 = 0 }) c.loop-m-test.true in
    omega (arith, low, c.requires.scope.graph.table.each)

pub loop-m-preserved : goal.loop-m-preserved
loop-m-preserved c =
    nested_on (λ (m : NetId). m.0) (policy_of c.args.scope.now.topo) c.args.n.0 c.nets-row.result.now c.loop-m.m-index (record { 0 = 0 }) (map end_of c.loop-m.found.items)
    (map end_of c.add_nested.new.found.items) _ c.loop-m-test.true c.in_ok-add_nested.ensures c.loop-m.invariant

pub returns : goal.returns
returns c =
    nested_end (λ (m : NetId). m.0) (policy_of c.args.scope.now.topo) c.args.n.0 c.nets-row.result.now c.loop-m.m-index (map end_of c.loop-m.found.items) _ c.loop-m-test.false c.loop-m.invariant
