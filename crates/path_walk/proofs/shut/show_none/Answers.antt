use Rattle.std.proofs.Common.{◌∙◌, sym, ap}
use Rattle.topology.specs.View.{policy_of}
use Rattle.path_walk.specs.Seen.{site_of, path_seen}
use Rattle.path_walk.specs.Shut.{is_marked}
use Rattle.path_walk.proofs.Nowhere.{nowhere, none_of}
use Rattle.path_walk.proofs.shut.show_none.Goals as goal

pub returns : goal.returns
returns c = λ shown to wanted.
    let s = site_of (policy_of c.args.topo) c.args.graph.now in
    nowhere s c.args.from.0 to (path_seen c.args.path.now) c.args.zones.now c.args.routers.now (sym c.keep_marks.ensures ∙ shown)
    (ap (is_marked c.args.zones.now) (sym c.end_of-end.ensures) ∙ (sym c.is_marked.ensures ∙ c.if-not-is_marked.false))
    (none_of c.args.zones.now c.args.wanted.now to (sym c.none_marked.ensures ∙ c.if-not-none_marked.false) wanted)
