use Rattle.std.proofs.Common.{◌<◌, sym, ap, arith, map, take, flat_map}
use Rattle.spoc_base.specs.Shown.{box_of}
use Rattle.spoc_ast.specs.Seen.{prt_seen, word_seen}
use Rattle.policy_build.specs.Views.{decls_of}
use Rattle.policy_build.specs.Fair.{fair_boxes}
use Rattle.policy_build.proofs.Expanding.{of_group, of_no_group, same}
use Rattle.policy_build.proofs.FirstBoxes.{first_same, first_of, first_more, full}
use Rattle.policy_build.proofs.expand.Expander.+expand.Goals as goal

pub add_group-returns-in-Some : goal.add_group-returns-in-Some
add_group-returns-in-Some t c =
    let l : 0 < c.args.depth = omega arith in
    first_same c.args.self.most c.add_all.result _ _ _ _ c.add_all.ensures (sym (of_group (decls_of c.args.self.scope) c.args.depth (word_seen c.args.name) (map prt_seen c.in-Some.prts.now) l (sym c.in-Some.ensures)))

pub add_group-returns-in-None : goal.add_group-returns-in-None
add_group-returns-in-None t c =
    let l : 0 < c.args.depth = omega arith in
    ap (take c.args.self.most) (same _ _ (of_no_group (decls_of c.args.self.scope) c.args.depth (word_seen c.args.name) l (sym c.in-None.ensures)))
