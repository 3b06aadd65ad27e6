use Rattle.std.proofs.Common.{◌≡◌, map, drop, ◌++◌}
use Rattle.topology.specs.Expressions.{part_of}
use Rattle.policy_build.specs.Views.{decls_of}
use Rattle.policy_build.proofs.Rows.{further_of}
use Rattle.policy_build.proofs.Unions.{part_in, further_in}
use Rattle.policy_build.proofs.sets.+sets.Given as goal

abbrev pub invariant-part-loop-further : goal.invariant-part-loop-further
invariant-part-loop-further l =
    map further_of l.found.items ++ map (further_in (decls_of l.scope)) (drop l.further-index l.further-items) ≡ map (further_in (decls_of l.scope)) l.further-items

abbrev pub invariant-parts-loop-inter : goal.invariant-parts-loop-inter
invariant-parts-loop-inter l =
    map part_of l.found.items ++ map (part_in (decls_of l.scope)) (drop l.inter-index l.inter-items) ≡ map (part_in (decls_of l.scope)) l.inter-items
