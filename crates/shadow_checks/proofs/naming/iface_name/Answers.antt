use Rattle.std.proofs.Common.{sym, subst}
use Rattle.policy_model.specs.Policy.{Iface, net_of, router_of}
use Rattle.topology.specs.Texts.{IsIfaceCalled}
use Rattle.topology.specs.View.{policy_of, sources_of}
use Rattle.shadow_checks.proofs.naming.iface_name.Goals as goal

pub returns : goal.returns
returns c =
    let p = policy_of c.args.topo in
    subst (λ (x : Iface). IsIfaceCalled (sources_of c.args.topo) (router_of p x.router).name (net_of p x.net).name c.iface.result.name) (sym c.iface.ensures.seen) c.iface.ensures.named
