use Rattle.std.proofs.Common.{sym}
use Rattle.policy_shapes.specs.Seen.{iface_seen}
use Rattle.policy_shapes.proofs.Bare.{not_bare}
use Rattle.policy_shapes.proofs.policy.add_if_bare.Goals as goal

pub returns-then-not-is_bare : goal.returns-then-not-is_bare
returns-then-not-is_bare c = not_bare (iface_seen c.args.iface.now) _ _ (sym c.is_bare.ensures) c.if-not-is_bare.true
