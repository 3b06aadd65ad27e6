use Rattle.std.proofs.Common.{◌∙◌, sym, ap}
use Rattle.std.specs.Prelude.{◌==◌}
use Rattle.policy_model.specs.Lists.{has}
use Rattle.policy_model.proofs.Views.{list_any_map}
use Rattle.nat_domains.proofs.look.is_bound.Goals as goal

pub returns : goal.returns
returns c =
    c.has_tag.ensures ∙ (sym (list_any_map (λ x. x == c.args.tag.0) (λ x. x.0) c.iface.result.binds.now) ∙ sym (ap (λ i. has i.binds c.args.tag.0) c.iface.ensures.seen))
