use Rattle.std.proofs.Common.{◌≡◌, ℕ, true, take, map}
use Rattle.policy_model.specs.Lists.{has}
use Rattle.nat_domains.specs.Marks.{is_marked}
use Rattle.nat_domains.specs.Spreading.{Grows}
use Rattle.nat_domains.proofs.bound.mark_tags.Given as goal

abbrev pub invariant-loop-tag : goal.invariant-loop-tag
invariant-loop-tag l = record {
  grown : Grows l.fn.marks l.marks;
  marked : (t : ℕ) → has (map (λ tag. tag.0) (take l.tag-index l.tags)) t ≡ true → is_marked l.marks t ≡ true;
}
