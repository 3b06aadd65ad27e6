use Rattle.std.proofs.Common.{ap, position, ◌∙◌}
use Rattle.policy_names.specs.Tables.{same_key, key}
use Rattle.policy_names.proofs.TestLemmas.{position_map}
use Rattle.policy_names.proofs.keys.Keys.find.Goals as goal

pub returns-clause-number : goal.returns-clause-number
returns-clause-number c =
    c.get_index_of.ensures.index ∙ position_map (same_key (key c.args.owner.now c.args.text.now)) (λ k. key k.0.now k.1.now) c.self.inside.set.keys
    ∙ ap (position (same_key (key c.args.owner.now c.args.text.now))) c.self.view_is
