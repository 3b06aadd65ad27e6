use Rattle.std.proofs.Common.{◌++◌, ◌∙◌, map, ap}
use Rattle.topology.specs.View.{policy_of, sources_of}
use Rattle.permit_set.specs.Shown.{permit_of}
use Rattle.service_rules.specs.Scope.{site_in}
use Rattle.service_rules.proofs.Rules.{policy_begins, services_sound, services_to_come}
use Rattle.service_rules.proofs.permits.list.Goals as goal

pub loop-service-init : goal.loop-service-init
loop-service-init c =
    let s = site_in c.args.scope.now in
    let sources = sources_of c.args.scope.now.topo in
    let services = c.services-service-items.result.now in (
      services_sound (policy_of c.args.scope.now.topo) sources services c.args.scope.now.topo.kept.sound c.services-service-items.ensures.seen,
      ap (λ l. map permit_of l ++ services_to_come s c.args.scope.now.areas.now c.args.deny sources services) c.new-found.ensures.items
          ∙ policy_begins s c.args.scope.now.areas.now c.args.deny sources services c.services-service-items.ensures.seen,
    )
