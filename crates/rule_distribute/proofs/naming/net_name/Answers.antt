use Rattle.std.proofs.Common.{ap}
use Rattle.spoc_base.specs.declared.place.Kind.TheVariants as kind
use Rattle.policy_model.specs.Policy.{Net, net_of}
use Rattle.topology.specs.View.{policy_of, sources_of}
use Rattle.rule_distribute.proofs.Calling.{name_told}
use Rattle.rule_distribute.proofs.naming.net_name.Goals as goal

pub returns : goal.returns
returns c =
    name_told kind.Network (sources_of c.args.topo) (net_of (policy_of c.args.topo) c.args.n.0).name c.net.result.name c.net.ensures.named (ap (λ (net : Net). net.name) c.net.ensures.seen)
