use Rattle.std.proofs.Common.{◌≡◌, ◌+◌, ◌∷◌, ℕ, true, false, length, take}
use Rattle.std.specs.Prelude.{map}
use Rattle.policy_model.specs.Lists.{has}
use Rattle.policy_model.specs.Policy.{router_at}
use Rattle.policy_model.specs.Tags.{binds}
use Rattle.topology.specs.View.{policy_of}
use Rattle.nat_domains.specs.Marks.{site_of, is_marked, unmarked}
use Rattle.nat_domains.specs.Spreading.{StaysSpreading}
use Rattle.nat_domains.proofs.spread.leave_zone.Given as goal

abbrev pub invariant-loop-i : goal.invariant-loop-i
invariant-loop-i l = record {
  stays : StaysSpreading (site_of l.topo l.graph) l.tag.0 l.fn.marks (l.fn.z.0 ∷ l.fn.waiting.items) l.fn.passed l.marks (l.fn.z.0 ∷ l.waiting.items) l.passed;
  gone : (i : ℕ) → has (map (λ j. j.0) (take l.i-index l.i-items)) i ≡ true → binds (policy_of l.topo) i l.tag.0 ≡ false → is_marked l.passed (router_at (policy_of l.topo) i) ≡ true;
  room : unmarked l.marks + length l.waiting.items ≡ unmarked l.fn.marks + length l.fn.waiting.items;
}
