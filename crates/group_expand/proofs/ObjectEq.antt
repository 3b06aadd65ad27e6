-- The derived equality of objects.
use Rattle.std.proofs.Common.{◌≡◌, refl}
use Rattle.policy_model.specs.Objects.{same_object}
use Rattle.group_expand.specs.declared.object.Object.{Object}
use Rattle.group_expand.specs.declared.object.Object.TheVariants as object
use Rattle.group_expand.specs.Sets.{object_seen}
use Rattle.group_expand.specs.contracts.object.ObjectPartialEq.TheImpl.{eq-value}

pub eq_same : (x y : Object) → eq-value.it x y ≡ same_object (object_seen x) (object_seen y)
eq_same (object.Net n) (object.Net m) = refl
eq_same (object.Net n) (object.Host m) = refl
eq_same (object.Net n) (object.Iface m) = refl
eq_same (object.Host n) (object.Net m) = refl
eq_same (object.Host n) (object.Host m) = refl
eq_same (object.Host n) (object.Iface m) = refl
eq_same (object.Iface n) (object.Net m) = refl
eq_same (object.Iface n) (object.Host m) = refl
eq_same (object.Iface n) (object.Iface m) = refl
