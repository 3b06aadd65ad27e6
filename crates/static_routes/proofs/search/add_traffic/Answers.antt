use Rattle.std.proofs.Common.{ℕ, ◌∙◌, ap}
use Rattle.policy_model.specs.Marks.{marked_crossings, marked_links}
use Rattle.topology.specs.View.{policy_of}
use Rattle.path_walk.specs.Seen.{site_of}
use Rattle.static_routes.proofs.search.add_traffic.Goals as goal

pub add_marks-requires-clause-crossings : goal.add_marks-requires-clause-crossings
add_marks-requires-clause-crossings c =
    let s = site_of (policy_of c.args.topo) c.args.graph.now in
    (c.marks_of-marks.ensures s c.requires.marks).crossings ∙ ap (λ (n : ℕ). marked_crossings s c.args.way.0 n) c.zone_of-to.ensures

pub add_marks-requires-clause-links : goal.add_marks-requires-clause-links
add_marks-requires-clause-links c =
    let s = site_of (policy_of c.args.topo) c.args.graph.now in
    (c.marks_of-marks.ensures s c.requires.marks).links ∙ ap (λ (n : ℕ). marked_links s c.args.way.0 n) c.zone_of-to.ensures
