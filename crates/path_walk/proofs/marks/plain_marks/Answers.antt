use Rattle.std.proofs.Common.{◌≡◌, ◌∙◌, map}
use Rattle.policy_model.specs.Marks.{marked_crossings, marked_links}
use Rattle.path_walk.specs.Pairs.{crossing_at, link_at}
use Rattle.std.proofs.lemmas.Result.{IfOk-weaker}
use Rattle.topology.specs.View.{policy_of}
use Rattle.path_walk.specs.Seen.{site_of, crossing_seen, link_seen}
use Rattle.path_walk.proofs.Marked.{crossings_told, links_told}
use Rattle.path_walk.proofs.marks.plain_marks.Goals as goal

pub returns-clause-crossings : goal.returns-clause-crossings
returns-clause-crossings c =
    let s = site_of (policy_of c.args.topo) c.args.graph.now in
    let told = crossings_told s c.args.from.0 c.args.to.0 c.new-marks.result.crossings.keys c.add_all.new.self.crossings.keys c.new-marks.ensures.crossings c.in_ok-add_all.ensures.crossings in
    IfOk-weaker c.table.result (λ t. map crossing_seen t.crossings ≡ map crossing_at c.add_all.new.self.crossings.keys) (λ t. map crossing_seen t.crossings ≡ marked_crossings s c.args.from.0 c.args.to.0)
    (λ t e. e ∙ told) c.table.ensures.crossings

pub returns-clause-links : goal.returns-clause-links
returns-clause-links c =
    let s = site_of (policy_of c.args.topo) c.args.graph.now in
    let told = links_told s c.args.from.0 c.args.to.0 c.new-marks.result.links.keys c.add_all.new.self.links.keys c.new-marks.ensures.links c.in_ok-add_all.ensures.links in
    IfOk-weaker c.table.result (λ t. map link_seen t.links ≡ map link_at c.add_all.new.self.links.keys) (λ t. map link_seen t.links ≡ marked_links s c.args.from.0 c.args.to.0)
    (λ t e. e ∙ told) c.table.ensures.links
