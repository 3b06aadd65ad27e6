use Rattle.std.proofs.Common.{arith, ◌≡◌, map}
use Rattle.std.proofs.lemmas.Grind.{common_steps}
use Rattle.spoc_ast.specs.declared.set.SetTree.{out-SetTree}
use Rattle.spoc_ast.specs.declared.set.InterTree.{out-InterTree}
use Rattle.topology.specs.Expressions.{part_of}
use Rattle.policy_build.proofs.Rows.{further_of}
use Rattle.policy_build.proofs.Unions.{part_in, further_in, roll_set, roll_part}
use Rattle.policy_build.specs.Views.{decls_of}
use Rattle.policy_build.proofs.sets.+sets.Goals as goal

pub parts-returns : goal.parts-returns
parts-returns t c =
    let e : map part_of c.into_bump_slice.result.now ≡ map (part_in (decls_of c.args.scope)) (out-SetTree c.args.set.now).inters.now = grind (arith, common_steps) in
    roll_set (decls_of c.args.scope) _ c.args.set.now e

pub part-returns : goal.part-returns
part-returns t c =
    let f : map further_of c.into_bump_slice.result.now ≡ map (further_in (decls_of c.args.scope)) (out-InterTree c.args.inter.now).rest.now = grind (arith, common_steps) in
    roll_part (decls_of c.args.scope) _ c.args.inter.now c.in_ok-first.ensures f
