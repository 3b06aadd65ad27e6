use Rattle.std.proofs.Common.{◌∙◌, ◌<◌, [], ap, map, subst, sym, length, slice_index_or}
use Rattle.zone_graph.proofs.Filled.{nth_row}
use Rattle.zone_graph.proofs.graph.ZoneGraph.doors.Goals as goal

pub returns : goal.returns
returns c =
    ap (map (λ n. n.0)) c.deref.ensures.value
    ∙ (nth_row (λ n. n.0) c.self.inside.doors.items c.args.z.0 c.index.result.now (subst (λ g. c.args.z.0 < length g.doors) (sym c.self.view_is) c.requires) c.index.ensures
    ∙ ap (λ g. slice_index_or g.doors c.args.z.0 []) c.self.view_is)
