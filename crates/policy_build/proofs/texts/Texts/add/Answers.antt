use Rattle.std.proofs.Common.{ap, not, ◌∙◌}
use Rattle.std.specs.List.{list_any}
use Rattle.std.specs.Str.{bytes_eq}
use Rattle.policy_names.proofs.TestLemmas.{list_any_map}
use Rattle.policy_build.proofs.texts.Texts.add.Goals as goal

pub returns-clause-added : goal.returns-clause-added
returns-clause-added c =
    c.in_ok-insert.ensures.added ∙ ap not (list_any_map (bytes_eq c.args.text.now) (λ k. k.now) c.self.inside.set.keys ∙ ap (list_any (bytes_eq c.args.text.now)) c.self.view_is)
