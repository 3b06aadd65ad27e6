use Rattle.std.proofs.Common.{true, set, refl, arith}
use Rattle.topology.specs.View.{policy_of}
use Rattle.group_expand.proofs.Marks.{set_grows, set_marks}
use Rattle.zone_hops.specs.Search.{numbers_of}
use Rattle.zone_hops.proofs.Marking.{visited}
use Rattle.zone_hops.proofs.search.visit.Goals as goal

pub returns-clause-goes : goal.returns-clause-goes
returns-clause-goes c = record { grows = set_grows c.args.seen.now c.args.n.0 (omega (arith, c.requires.there, c.requires.nets)); grown = c.in_ok-look_round.ensures.grown }

pub returns-clause-keeps : goal.returns-clause-keeps
returns-clause-keeps c =
    visited (policy_of c.args.topo) c.args.at.0 c.args.n.0 c.args.seen.now (set c.args.seen.now c.args.n.0 true) c.args.passed.now c.look_round.new.passed
    (numbers_of c.args.left.now.items) (numbers_of c.look_round.new.left.items) (omega (arith, c.requires.there, c.requires.nets)) c.if-n-at.false c.if-seen-n.false refl c.in_ok-look_round.ensures.keeps

pub returns-clause-seen : goal.returns-clause-seen
returns-clause-seen c = λ apart. set_marks c.args.seen.now c.args.n.0 (omega (arith, c.requires.there, c.requires.nets))
