use Rattle.std.proofs.Common.{◌≡◌, false, take}
use Rattle.std.specs.Prelude.{is_none}
use Rattle.std.specs.List.{list_any}
use Rattle.rule_distribute.proofs.hidden.hides.Given as goal

abbrev pub invariant-loop-nat : goal.invariant-loop-nat
invariant-loop-nat l = list_any (λ nat. is_none nat.1) (take l.nat-index l.nats) ≡ false
