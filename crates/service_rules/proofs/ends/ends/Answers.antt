use Rattle.std.proofs.Common.{map}
use Rattle.topology.specs.View.{policy_of}
use Rattle.group_expand.specs.Sets.{object_seen}
use Rattle.group_expand.proofs.ObjectLists.{there_rest}
use Rattle.permit_set.specs.Shown.{end_of}
use Rattle.service_rules.specs.Scope.{site_in}
use Rattle.service_rules.proofs.EndLists.{object_more, objects_end}
use Rattle.service_rules.proofs.ends.ends.Goals as goal

pub loop-object-preserved : goal.loop-object-preserved
loop-object-preserved c = (
  there_rest (policy_of c.args.scope.now.topo) c.args.objects.now c.loop-object.object-index c.loop-object-test.true c.loop-object.invariant.0,
  object_more object_seen (site_in c.args.scope.now) c.args.objects.now c.loop-object.object-index _ (map end_of c.loop-object.found.items) (map end_of c.add_ends.new.found.items) _
      c.loop-object-test.true c.in_ok-add_ends.ensures c.loop-object.invariant.1,
)

pub returns : goal.returns
returns c =
    objects_end object_seen (site_in c.args.scope.now) c.args.objects.now c.loop-object.object-index (map end_of c.loop-object.found.items) _ c.loop-object-test.false c.loop-object.invariant.1
