-- The prefixes left decide as all of them do.
use Rattle.std.proofs.Common.{◌≡◌, ◌||◌, map, drop}
use Rattle.std.specs.List.{list_any}
use Rattle.spoc_base.specs.Address.{is_inside}
use Rattle.spoc_base.specs.Shown.{cidr_of}
use Rattle.local_optimise.proofs.ends.is_touching.Given as goal

abbrev pub invariant-loop-q : goal.invariant-loop-q
invariant-loop-q l =
    list_any (λ q. is_inside (cidr_of l.p) q || is_inside q (cidr_of l.p)) (map cidr_of l.others)
    ≡ list_any (λ q. is_inside (cidr_of l.p) q || is_inside q (cidr_of l.p)) (map cidr_of (drop l.q-index l.others))
