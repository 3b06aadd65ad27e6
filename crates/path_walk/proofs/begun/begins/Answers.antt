use Rattle.std.proofs.Common.{◌≡◌, ◌∙◌, ap, map, ℕ}
use Rattle.std.specs.List.{list_any}
use Rattle.std.proofs.lemmas.Result.{IfOk-weaker}
use Rattle.policy_model.specs.Paths.{is_start_of}
use Rattle.policy_model.specs.Walks.{allowed_walks}
use Rattle.topology.specs.View.{policy_of}
use Rattle.path_walk.specs.Seen.{site_of, crossing_seen}
use Rattle.path_walk.specs.Begun.{is_begun}
use Rattle.path_walk.proofs.begun.begins.Goals as goal

pub returns : goal.returns
returns c =
    let s = site_of (policy_of c.args.topo) c.args.graph.now in
    let path = map crossing_seen c.args.crossings.now in
    IfOk-weaker c.begins_from.result (λ r. r ≡ list_any (is_start_of path) (allowed_walks s c.start_of-from.result.0 c.args.to.0)) (λ r. r ≡ is_begun s path c.args.to.0)
    (λ r e. e ∙ ap (λ (z : ℕ). list_any (is_start_of path) (allowed_walks s z c.args.to.0)) c.start_of-from.ensures) c.begins_from.ensures
