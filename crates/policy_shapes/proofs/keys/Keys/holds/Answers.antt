use Rattle.std.proofs.Common.{ap, ◌∙◌}
use Rattle.std.specs.List.{list_any}
use Rattle.policy_names.proofs.TestLemmas.{list_any_map}
use Rattle.policy_shapes.specs.Keys.{same_key, key}
use Rattle.policy_shapes.proofs.keys.Keys.holds.Goals as goal

pub returns : goal.returns
returns c =
    c.contains.ensures ∙ list_any_map (same_key (key c.args.owner.now c.args.text.now)) (λ k. key k.0.now k.1.now) c.self.inside.set.keys
    ∙ ap (list_any (same_key (key c.args.owner.now c.args.text.now))) c.self.view_is
