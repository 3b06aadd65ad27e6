use Rattle.std.proofs.Common.{◌∙◌, ap, map}
use Rattle.group_expand.specs.Sets.{object_seen, with_object}
use Rattle.group_expand.proofs.ObjectLists.{inserted}
use Rattle.group_expand.proofs.ObjectEq.{eq_same}
use Rattle.group_expand.specs.contracts.object.ObjectPartialEq.TheImpl.{eq-value}
use Rattle.group_expand.proofs.object_set.ObjectSet.add.Goals as goal

pub returns : goal.returns
returns c =
    ap (map object_seen) c.in_ok-insert.ensures.keys ∙ inserted eq-value.it eq_same c.args.object c.self.inside.set.keys
    ∙ ap (λ xs. with_object xs (object_seen c.args.object)) c.self.view_is
