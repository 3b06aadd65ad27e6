use Rattle.std.proofs.Common.{◌≡◌, ◌+◌, ◌*◌, map, flat_map, take, drop, ◌++◌}
use Rattle.spoc_base.specs.Shown.{box_of}
use Rattle.spoc_ast.specs.Seen.{prt_seen}
use Rattle.policy_build.specs.Views.{decls_of}
use Rattle.policy_build.specs.Fair.{fair_boxes}
use Rattle.policy_build.proofs.expand.Expander.+expand.Given as goal

abbrev pub decreases-add_all : goal.decreases-add_all
decreases-add_all l = 3 * l.depth + 2

abbrev pub decreases-add : goal.decreases-add
decreases-add l = 3 * l.depth + 1

abbrev pub decreases-add_group : goal.decreases-add_group
decreases-add_group l = 3 * l.depth

abbrev pub invariant-add_all-loop-prt : goal.invariant-add_all-loop-prt
invariant-add_all-loop-prt l =
    take l.self.most (map box_of l.boxes.found.items ++ flat_map (fair_boxes (decls_of l.self.scope) l.depth) (map prt_seen (drop l.prt-index l.prts)))
    ≡ take l.self.most (map box_of l.fn.boxes.found.items ++ flat_map (fair_boxes (decls_of l.self.scope) l.depth) (map prt_seen l.prts))
