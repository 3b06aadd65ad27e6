use Rattle.std.proofs.Common.{◌∙◌, sym}
use Rattle.spoc_ast.specs.Seen.{if_part_seen}
use Rattle.policy_decls.specs.Said.{shared_in}
use Rattle.policy_build.proofs.Firsts.{first_here, first_later}
use Rattle.policy_build.proofs.ifaces.first_shared.Goals as goal

pub returns-in-Some : goal.returns-in-Some
returns-in-Some c = first_here shared_in if_part_seen c.args.parts.now c.loop-part.part-index _ c.loop-part-test.true _ c.in-Some.ensures ∙ sym c.loop-part.invariant

pub loop-part-preserved : goal.loop-part-preserved
loop-part-preserved c = c.loop-part.invariant ∙ first_later shared_in if_part_seen c.args.parts.now c.loop-part.part-index _ c.loop-part-test.true c.in_default.ensures
