use Rattle.std.proofs.Common.{◌∙◌, refl, sym, ap, map, length}
use Rattle.std.proofs.lemmas.List.{length-map}
use Rattle.policy_decls.specs.Said.{policy_said}
use Rattle.topology.specs.declared.items.Parts.{Parts}
use Rattle.topology.specs.Seen.{net_seen}
use Rattle.policy_build.specs.Rows.{all_owned}
use Rattle.policy_build.specs.Views.{decls_of, sources_in}
use Rattle.policy_build.proofs.Parted.{routers_fit, nets_fit, same_policy, is_kept}
use Rattle.policy_build.proofs.policy.policy.Goals as goal

pub at_routers-requires : goal.at_routers-requires
at_routers-requires c =
    routers_fit (sources_in c.args.scope) (policy_said (decls_of c.args.scope)) c.in_ok-ifaces.ifaces.now c.in_ok-ifaces.ensures.said c.in_ok-routers.routers.now c.in_ok-routers.ensures.said c.requires.sound
    (length c.in_ok-routers.routers.now) refl

pub at_nets-requires : goal.at_nets-requires
at_nets-requires c =
    nets_fit (sources_in c.args.scope) (policy_said (decls_of c.args.scope)) c.in_ok-ifaces.ifaces.now c.in_ok-ifaces.ensures.said c.in_ok-nets.nets.now c.in_ok-nets.ensures.said c.requires.sound
    (length c.in_ok-nets.nets.now) refl

pub restrictions-requires-clause-order : goal.restrictions-requires-clause-order
restrictions-requires-clause-order c =
    c.in_ok-at_net.ensures.whole
    ∙ ap (all_owned (map (λ i. i.net.0) c.in_ok-ifaces.ifaces.now)) (sym (length-map c.in_ok-nets.nets.now (net_seen (sources_in c.args.scope))) ∙ ap length c.in_ok-nets.ensures.said)

pub new-requires : goal.new-requires
new-requires c =
    is_kept _ (policy_said (decls_of c.args.scope))
    (record { nets = c.in_ok-nets.ensures.said; hosts = c.in_ok-hosts.ensures.said; routers = c.in_ok-routers.ensures.said; ifaces = c.in_ok-ifaces.ensures.said; tags = c.in_ok-tags.ensures.said; restrictions = c.in_ok-restrictions.ensures.said; groups = c.in_ok-groups.ensures.said; areas = c.in_ok-areas.ensures.said; aggregates = c.in_ok-aggregates.ensures.said; services = c.in_ok-services.ensures.said })
    c.requires.sound
    (record { nets = c.in_ok-nets.ensures.written; hosts = c.in_ok-hosts.ensures.written; routers = c.in_ok-routers.ensures.written; ifaces = c.in_ok-ifaces.ensures.written; tags = c.in_ok-tags.ensures.written; restrictions = c.in_ok-restrictions.ensures.declared; implied = c.in_ok-restrictions.ensures.implied; groups = c.in_ok-groups.ensures.written; areas = c.in_ok-areas.ensures.written; aggregates = c.in_ok-aggregates.ensures.written; services = c.in_ok-services.ensures.written })
    c.in_ok-at_router.ensures c.in_ok-at_net.ensures.rows

pub returns-clause-policy : goal.returns-clause-policy
returns-clause-policy c =
    let parts : Parts = record {
      sources = c.args.scope.sources;
      nets = c.in_ok-nets.nets;
      hosts = c.in_ok-hosts.hosts;
      routers = c.in_ok-routers.routers;
      ifaces = c.in_ok-ifaces.ifaces;
      tags = c.in_ok-tags.tags;
      restrictions = c.in_ok-restrictions.restrictions;
      groups = c.in_ok-groups.groups;
      areas = c.in_ok-areas.areas;
      aggregates = c.in_ok-aggregates.aggregates;
      services = c.in_ok-services.services;
      at_router = c.in_ok-at_router.at_router;
      at_net = c.in_ok-at_net.at_net;
    } in
    c.new.ensures.policy ∙ same_policy parts (policy_said (decls_of c.args.scope))
    (record { nets = c.in_ok-nets.ensures.said; hosts = c.in_ok-hosts.ensures.said; routers = c.in_ok-routers.ensures.said; ifaces = c.in_ok-ifaces.ensures.said; tags = c.in_ok-tags.ensures.said; restrictions = c.in_ok-restrictions.ensures.said; groups = c.in_ok-groups.ensures.said; areas = c.in_ok-areas.ensures.said; aggregates = c.in_ok-aggregates.ensures.said; services = c.in_ok-services.ensures.said })
