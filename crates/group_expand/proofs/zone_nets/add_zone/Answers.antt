use Rattle.std.proofs.Common.{◌∙◌, ℕ, List, map, ap, arith, length, refl}
use Rattle.std.specs.Prelude.{filter, option_map, ◌==◌}
use Rattle.spoc_base.specs.Shown.{cidr_of}
use Rattle.spoc_base.specs.declared.ids.NetId.{NetId}
use Rattle.policy_model.specs.Objects.{NetObject, is_asked}
use Rattle.policy_model.specs.Zones.{zone_of}
use Rattle.topology.specs.View.{policy_of}
use Rattle.group_expand.specs.Scope.{site_in}
use Rattle.group_expand.specs.Sets.{with_objects}
use Rattle.group_expand.proofs.Loops.{items_end}
use Rattle.group_expand.proofs.Gathering.{row_below, row_more}
use Rattle.group_expand.proofs.zone_nets.add_zone.Goals as goal

pub loop-n-init : goal.loop-n-init
loop-n-init c =
    ap (λ (l : List ℕ). with_objects c.args.found.now (map NetObject (filter (is_asked (policy_of c.args.scope.now.topo) (option_map cidr_of c.args.only)) l)))
    (c.nets-row.ensures ∙ c.requires.scope.graph.nets_are c.args.z.0 c.requires.there)

pub add_asked-requires : goal.add_asked-requires
add_asked-requires c =
    let s = site_in c.args.scope.now in
    let low = row_below (λ (n : NetId). n.0) (λ n. zone_of s n == c.args.z.0) (length s.zones) c.nets-row.result.now _ c.nets-row.ensures (c.requires.scope.graph.nets_are c.args.z.0 c.requires.there)
    c.loop-n.n-index (record { 0 = 0 }) c.loop-n-test.true in
    omega (arith, low, c.requires.scope.graph.table.each)

pub loop-n-preserved : goal.loop-n-preserved
loop-n-preserved c =
    row_more (λ (n : NetId). n.0) (site_in c.args.scope.now) (option_map cidr_of c.args.only) c.nets-row.result.now c.loop-n.n-index (record { 0 = 0 }) c.loop-n.found c.add_asked.new.found _
    c.loop-n-test.true c.in_ok-add_asked.ensures c.loop-n.invariant

pub returns : goal.returns
returns c =
    items_end (λ (l : List NetId). map NetObject (filter (is_asked (policy_of c.args.scope.now.topo) (option_map cidr_of c.args.only)) (map (λ n. n.0) l))) c.nets-row.result.now c.loop-n.n-index
    c.loop-n.found _ refl c.loop-n-test.false c.loop-n.invariant
