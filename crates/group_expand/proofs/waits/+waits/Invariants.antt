use Rattle.std.proofs.Common.{◌≡◌, drop}
use Rattle.std.specs.List.{list_any}
use Rattle.topology.specs.Expressions.{expr_of, part_of, term_of}
use Rattle.group_expand.specs.Groups.{waits}
use Rattle.group_expand.proofs.waits.+waits.Given as goal

abbrev pub invariant-waits-loop-part : goal.invariant-waits-loop-part
invariant-waits-loop-part l = list_any (λ part. waits l.done (part_of part)) (drop l.part-index l.part-items) ≡ waits l.done (expr_of l.set)

abbrev pub invariant-part_waits-loop-further : goal.invariant-part_waits-loop-further
invariant-part_waits-loop-further l = list_any (λ f. waits l.done (term_of f.term)) (drop l.further-index l.further-items) ≡ waits l.done (part_of l.part)
