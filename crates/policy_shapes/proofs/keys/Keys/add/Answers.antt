use Rattle.policy_shapes.specs.Keys.{key}
use Rattle.policy_shapes.proofs.Known.{ok_added}
use Rattle.policy_shapes.proofs.keys.Keys.add.Goals as goal

pub returns-clause-names : goal.returns-clause-names
returns-clause-names c = ok_added c.insert.result c.args.self.now c.insert.new.self (key c.args.owner.now c.args.text.now) c.insert.ensures.added c.insert.ensures.names
