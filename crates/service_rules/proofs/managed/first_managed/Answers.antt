use Rattle.std.proofs.Common.{subst}
use Rattle.topology.specs.Seen.{service_seen}
use Rattle.topology.specs.View.{policy_of, sources_of}
use Rattle.policy_model.specs.Faults.{has_managed_end}
use Rattle.service_rules.specs.Least.{IsLeast}
use Rattle.service_rules.specs.Scope.{site_in}
use Rattle.service_rules.proofs.LeastEnds.{none_more, service_at}
use Rattle.service_rules.proofs.Rules.{services_sound, service_sound_at}
use Rattle.service_rules.proofs.managed.first_managed.Goals as goal

pub in_service-requires-clause-sound : goal.in_service-requires-clause-sound
in_service-requires-clause-sound c =
    let p = policy_of c.args.scope.now.topo in
    let sources = sources_of c.args.scope.now.topo in
    let services = c.services-services.result.now in
    service_sound_at p sources services c.loop-k.k c.index-services-k.result c.loop-k-test.true c.index-services-k.is
    (services_sound p sources services c.args.scope.now.topo.kept.sound c.services-services.ensures.seen)

pub loop-k-preserved : goal.loop-k-preserved
loop-k-preserved c =
    let s = site_in c.args.scope.now in
    let areas = c.args.scope.now.areas.now in
    let sources = sources_of c.args.scope.now.topo in
    let x = service_seen sources c.index-services-k.result in
    none_more s areas x c.loop-k.k
    (service_at sources c.services-services.result.now s.policy.services c.loop-k.k c.index-services-k.result c.services-services.ensures.seen c.loop-k-test.true c.index-services-k.is)
    (subst (λ found. IsLeast (has_managed_end s areas x) found) c.in_default.is c.in_ok-i.ensures.least) c.loop-k.invariant
