use Rattle.std.proofs.Common.{ap}
use Rattle.spoc_base.specs.declared.place.Kind.TheVariants as kind
use Rattle.policy_model.specs.Policy.{Router, router_of}
use Rattle.topology.specs.View.{policy_of, sources_of}
use Rattle.shadow_checks.proofs.Calling.{name_told}
use Rattle.shadow_checks.proofs.naming.router_name.Goals as goal

pub returns : goal.returns
returns c =
    name_told kind.Router (sources_of c.args.topo) (router_of (policy_of c.args.topo) c.args.r.0).name c.router.result.name c.router.ensures.named (ap (λ (router : Router). router.name) c.router.ensures.seen)
