use Rattle.std.proofs.Common.{◌<◌, length, map, take, arith}
use Rattle.std.proofs.lemmas.List.{length-map}
use Rattle.policy_names.specs.Seen.{mention_seen}
use Rattle.policy_names.proofs.Twice.{none_twice}
use Rattle.policy_names.proofs.Steps.{twice_here, new_here, kept_here}
use Rattle.policy_names.proofs.tables.tables_of.Goals as goal

pub returns-then-not-branch-clause-twice : goal.returns-then-not-branch-clause-twice
returns-then-not-branch-clause-twice c =
    twice_here c.args.names.now c.loop-name.name-index _ (omega arith) c.in_ok-note.field-0 (c.in_ok-note.ensures.added (map mention_seen (take c.loop-name.name-index c.args.names.now)) c.loop-name.invariant.0) c.if-not-branch.true c.loop-name.invariant.1

pub loop-name-preserved : goal.loop-name-preserved
loop-name-preserved c =
    let seen = map mention_seen (take c.loop-name.name-index c.args.names.now) in (
      kept_here c.args.names.now c.loop-name.name-index _ (omega arith) c.note.new.self.kinds.items c.note.new.self.tags (c.in_ok-note.ensures.tables seen c.if-not-branch.false c.loop-name.invariant.0),
      new_here c.args.names.now c.loop-name.name-index _ (omega arith) c.in_ok-note.field-0 (c.in_ok-note.ensures.added seen c.loop-name.invariant.0) c.if-not-branch.false c.loop-name.invariant.1,
    )

pub returns-clause-differ : goal.returns-clause-differ
returns-clause-differ c =
    none_twice (map mention_seen c.args.names.now) (λ k l. let m : k < length c.args.names.now = simp length-map at l in c.loop-name.invariant.1 k (omega arith))
