use Rattle.std.proofs.Common.{◌≡◌, ◌∙◌, sym, subst, map, [], ◌∷◌}
use Rattle.std.specs.Prelude.{option_map}
use Rattle.spoc_base.specs.Shown.{cidr_of}
use Rattle.policy_model.specs.Objects.{object_set, zone_nets}
use Rattle.policy_model.specs.Policy.{aggregate_of}
use Rattle.topology.specs.View.{policy_of}
use Rattle.group_expand.specs.Scope.{site_in}
use Rattle.group_expand.specs.Sets.{object_seen}
use Rattle.group_expand.proofs.Loops.{if_ok}
use Rattle.group_expand.proofs.Gathering.{one_zone}
use Rattle.group_expand.proofs.zone_nets.of_aggregate.Goals as goal

pub returns : goal.returns
returns c =
    let s = site_in c.args.scope.now in
    let a = aggregate_of (policy_of c.args.scope.now.topo) c.args.k in
    if_ok c.list.result (λ found. map object_seen found.items ≡ c.add_zone.new.found) (λ found. map object_seen found.items ≡ object_set (zone_nets s a.only (a.link ∷ [])))
    (λ found e. e ∙ subst (λ a. c.add_zone.new.found ≡ object_set (zone_nets s a.only (a.link ∷ []))) (sym c.aggregate-aggregate.ensures.seen)
    (one_zone s (option_map cidr_of c.aggregate-aggregate.result.only) c.aggregate-aggregate.result.link.0 c.zone_of-z.result.0 c.new-found.result c.add_zone.new.found c.new-found.ensures
    c.in_ok-add_zone.ensures c.zone_of-z.ensures)) c.list.ensures
