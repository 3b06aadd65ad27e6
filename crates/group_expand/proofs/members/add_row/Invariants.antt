use Rattle.std.proofs.Common.{◌≡◌, map, drop}
use Rattle.policy_model.specs.Objects.{HostObject}
use Rattle.group_expand.specs.Sets.{with_objects}
use Rattle.group_expand.proofs.members.add_row.Given as goal

abbrev pub invariant-loop-h : goal.invariant-loop-h
invariant-loop-h l =
    with_objects l.found (map HostObject (map (λ h. h.0) (drop l.h-index l.row))) ≡ with_objects l.fn.found (map HostObject (map (λ h. h.0) l.row))
