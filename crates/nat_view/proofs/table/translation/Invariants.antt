use Rattle.std.proofs.Common.{◌≡◌, drop, map}
use Rattle.std.specs.Prelude.{find}
use Rattle.policy_model.specs.Lists.{has}
use Rattle.nat_view.specs.Shown.{numbers_of, nat_seen}
use Rattle.nat_view.proofs.table.translation.Given as goal

abbrev pub invariant-loop-nat : goal.invariant-loop-nat
invariant-loop-nat l =
    find (λ nat. has (numbers_of l.tags) nat.0) (map nat_seen (drop l.nat-index l.nats)) ≡ find (λ nat. has (numbers_of l.tags) nat.0) (map nat_seen l.nats)
