use Rattle.std.proofs.Common.{ap}
use Rattle.spoc_base.specs.declared.place.Kind.TheVariants as kind
use Rattle.policy_model.specs.Policy.{Host, host_of}
use Rattle.topology.specs.View.{policy_of, sources_of}
use Rattle.shadow_checks.proofs.Calling.{name_told}
use Rattle.shadow_checks.proofs.naming.host_name.Goals as goal

pub returns : goal.returns
returns c =
    name_told kind.Host (sources_of c.args.topo) (host_of (policy_of c.args.topo) c.args.h.0).name c.host.result.name c.host.ensures.named (ap (λ (host : Host). host.name) c.host.ensures.seen)
