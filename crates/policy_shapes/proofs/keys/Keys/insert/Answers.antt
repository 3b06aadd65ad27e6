use Rattle.std.proofs.Common.{ap, not, ◌∙◌}
use Rattle.std.specs.List.{list_any}
use Rattle.policy_names.proofs.TestLemmas.{list_any_map}
use Rattle.policy_shapes.specs.Keys.{same_key, key}
use Rattle.policy_shapes.proofs.keys.Keys.insert.Goals as goal

pub returns-clause-added : goal.returns-clause-added
returns-clause-added c =
    c.in_ok-insert.ensures.added
    ∙ ap not (list_any_map (same_key (key c.args.owner.now c.args.text.now)) (λ k. key k.0.now k.1.now) c.self.inside.set.keys ∙ ap (list_any (same_key (key c.args.owner.now c.args.text.now))) c.self.view_is)
