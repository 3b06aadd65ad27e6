use Rattle.std.proofs.Common.{◌∙◌}
use Rattle.policy_names.specs.Seen.{mention_seen}
use Rattle.policy_names.proofs.Known.{known}
use Rattle.policy_names.proofs.table.NameTable.knows.Goals as goal

pub returns : goal.returns
returns c = c.is_some.ensures ∙ known c.args.self.now (mention_seen c.args.name.now) c.number.result (c.number.ensures (mention_seen c.args.name.now).shown)
