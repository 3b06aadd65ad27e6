use Rattle.std.proofs.Common.{◌∙◌, ap, map, flat_map, take, ◌++◌}
use Rattle.spoc_base.specs.Shown.{box_of}
use Rattle.spoc_ast.specs.Seen.{prt_seen}
use Rattle.policy_build.specs.Views.{decls_of}
use Rattle.policy_build.specs.Fair.{fair_boxes}
use Rattle.policy_build.proofs.FirstBoxes.{map_take}
use Rattle.policy_build.proofs.expand.Expander.boxes.Goals as goal

pub returns : goal.returns
returns c =
    let most = c.args.self.most in
    let all = flat_map (fair_boxes (decls_of c.args.self.scope) c.args.self.depth) (map prt_seen c.args.prts.now) in
    ap (map box_of) (c.into_bump_slice.ensures ∙ c.truncate.ensures.items) ∙ map_take box_of most c.add_all.new.boxes.found.items ∙ c.in_ok-add_all.ensures
    ∙ ap (λ l. take most (map box_of l ++ all)) c.new.ensures.items
