use Rattle.std.proofs.Common.{map}
use Rattle.policy_names.specs.Seen.{mention_seen}
use Rattle.policy_names.proofs.SetUses.{after_first}
use Rattle.policy_names.proofs.sets.+sets.Goals as goal

pub add_part-loop-further-init : goal.add_part-loop-further-init
add_part-loop-further-init t c =
    after_first (map mention_seen c.args.found.now.items) (map mention_seen c.add_term.new.found.items) c.args.part.now c.in_ok-add_term.ensures
