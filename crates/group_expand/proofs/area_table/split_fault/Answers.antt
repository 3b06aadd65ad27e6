use Rattle.std.proofs.Common.{ap}
use Rattle.spoc_base.specs.declared.place.Kind.TheVariants as kind
use Rattle.topology.specs.View.{policy_of, sources_of}
use Rattle.group_expand.proofs.Split.{is_name, is_iface_name}
use Rattle.group_expand.proofs.area_table.split_fault.Goals as goal

pub returns : goal.returns
returns c = λ zones. (
  is_name kind.Area (sources_of c.args.topo) _ c.area.result.name c.area.ensures.named (ap (λ a. a.name) c.area.ensures.seen),
  is_iface_name (sources_of c.args.topo) (policy_of c.args.topo) c.args.i.0 c.iface.result.router.0 c.iface.result.net.0 c.iface.result.name
      (ap (λ i. i.router) c.iface.ensures.seen) (ap (λ i. i.net) c.iface.ensures.seen) c.iface.ensures.named,
)
