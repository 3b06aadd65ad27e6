use Rattle.object_groups.proofs.RunSteps.{if_joined_twice}
use Rattle.object_groups.proofs.runs.joined_once.Goals as goal

pub returns : goal.returns
returns c = if_joined_twice c.args.lines.now c.in_ok-by_source.by_source.items c.deref.result.now c.joined_and_mirrored-2.result c.in_ok-by_source.ensures c.deref.ensures.value c.joined_and_mirrored-2.ensures
