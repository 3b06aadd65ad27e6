use Rattle.std.proofs.Common.{◌∙◌, sym}
use Rattle.std.specs.Prelude.{◌==◌}
use Rattle.policy_model.proofs.Views.{list_any_map}
use Rattle.nat_view.proofs.table.is_in_force.Goals as goal

pub returns : goal.returns
returns c = c.is_one_of.ensures ∙ sym (list_any_map (λ x. x == c.args.tag.0) (λ t. t.0) c.args.tags.now)
