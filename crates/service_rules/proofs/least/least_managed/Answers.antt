use Rattle.std.proofs.Common.{length}
use Rattle.policy_model.specs.Faults.{is_managed_end}
use Rattle.topology.specs.View.{policy_of}
use Rattle.group_expand.specs.Sets.{object_seen}
use Rattle.group_expand.proofs.ObjectLists.{there_rest}
use Rattle.service_rules.proofs.LeastEnds.{least_more, least_all}
use Rattle.service_rules.proofs.least.least_managed.Goals as goal

pub loop-object-preserved : goal.loop-object-preserved
loop-object-preserved c =
    let p = policy_of c.args.topo in (
      there_rest p c.args.objects.now c.loop-object.object-index c.loop-object-test.true c.loop-object.invariant.0,
      least_more (λ i o. is_managed_end p i (object_seen o)) c.args.objects.now c.loop-object.object-index _ c.loop-object.least c.managed_iface.result c.lesser-least.result c.loop-object-test.true
          c.lesser-least.ensures.least c.managed_iface.ensures.least c.loop-object.invariant.1,
      c.lesser-least.ensures.there (length p.ifaces) c.loop-object.invariant.2 c.managed_iface.ensures.there,
    )

pub returns-clause-least : goal.returns-clause-least
returns-clause-least c =
    least_all (is_managed_end (policy_of c.args.topo)) object_seen c.args.objects.now c.loop-object.object-index c.loop-object.least c.loop-object-test.false c.loop-object.invariant.1
