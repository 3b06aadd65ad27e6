use Rattle.std.proofs.Common.{map}
use Rattle.spoc_ast.specs.Seen.{decl_seen}
use Rattle.policy_shapes.specs.Seen.{iface_seen}
use Rattle.policy_shapes.proofs.Taken.{outside_by}
use Rattle.policy_shapes.proofs.router.is_outside.Goals as goal

pub loop-part-init : goal.loop-part-init
loop-part-init c = outside_by (map decl_seen c.args.policy.now) (iface_seen c.args.iface.now)
