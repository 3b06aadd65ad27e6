use Rattle.std.proofs.Common.{◌∙◌, ap}
use Rattle.policy_model.specs.Objects.{has_object}
use Rattle.group_expand.specs.Sets.{object_seen}
use Rattle.group_expand.proofs.ObjectLists.{any_seen}
use Rattle.group_expand.proofs.ObjectEq.{eq_same}
use Rattle.group_expand.specs.contracts.object.ObjectPartialEq.TheImpl.{eq-value}
use Rattle.group_expand.proofs.object_set.ObjectSet.has.Goals as goal

pub returns : goal.returns
returns c =
    c.contains.ensures ∙ any_seen eq-value.it eq_same c.args.object c.self.inside.set.keys
    ∙ ap (λ xs. has_object xs (object_seen c.args.object)) c.self.view_is
