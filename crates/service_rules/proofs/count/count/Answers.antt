use Rattle.std.proofs.Common.{ap, length, refl, arith}
use Rattle.topology.specs.View.{policy_of, sources_of}
use Rattle.service_rules.specs.Counted.{most}
use Rattle.service_rules.specs.Scope.{site_in}
use Rattle.service_rules.proofs.Rules.{services_sound, policy_begins, rest_sound, services_to_come, count_more, count_end}
use Rattle.service_rules.proofs.Counts.{count_begins}
use Rattle.policy_model.specs.Permits.{service_items}
use Rattle.service_rules.specs.Ends.{is_action}
use Rattle.topology.specs.Seen.{service_seen}
use Rattle.topology.specs.Sound.{is_sound_service}
use Rattle.service_rules.proofs.count.count.Goals as goal

pub loop-service-init : goal.loop-service-init
loop-service-init c =
    let s = site_in c.args.scope.now in
    let sources = sources_of c.args.scope.now.topo in
    let services = c.services-service-items.result.now in (
      services_sound (policy_of c.args.scope.now.topo) sources services c.args.scope.now.topo.kept.sound c.services-service-items.ensures.seen,
      omega arith,
      count_begins _ _ most (ap length (policy_begins s c.args.scope.now.areas.now c.args.deny sources services c.services-service-items.ensures.seen)),
    )

pub loop-service-preserved : goal.loop-service-preserved
loop-service-preserved c =
    let s = site_in c.args.scope.now in
    let areas = c.args.scope.now.areas.now in
    let sources = sources_of c.args.scope.now.topo in
    let services = c.services-service-items.result.now in
    let k = c.loop-service.service-index in (
      rest_sound (λ x. is_sound_service (policy_of c.args.scope.now.topo) (service_seen sources x)) services k c.service-item.result c.loop-service-test.true c.loop-service.invariant.0,
      omega (arith, c.saturating_add-count.ensures),
      count_more (services_to_come s areas c.args.deny sources) (λ x. service_items s areas (is_action c.args.deny) (service_seen sources x)) (λ x l. refl) services k c.service-item.result most c.loop-service.count
          c.saturating_add-count.result c.in_ok-of_service.field-0 _ c.loop-service-test.true c.service-item.is c.in_ok-of_service.ensures c.saturating_add-count.ensures c.loop-service.invariant.2,
    )

pub returns : goal.returns
returns c =
    count_end (services_to_come (site_in c.args.scope.now) c.args.scope.now.areas.now c.args.deny (sources_of c.args.scope.now.topo)) c.services-service-items.result.now c.loop-service.service-index most c.loop-service.count _
    refl c.loop-service-test.false c.loop-service.invariant.1 c.loop-service.invariant.2
