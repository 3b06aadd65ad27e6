use Rattle.std.proofs.Common.{◌≡◌, ◌∙◌, ap, map, ℕ}
use Rattle.std.specs.List.{list_any}
use Rattle.std.proofs.lemmas.Result.{IfOk-weaker}
use Rattle.policy_model.specs.Walks.{allowed_walks}
use Rattle.policy_model.specs.Delivery.{goes_into}
use Rattle.topology.specs.View.{policy_of}
use Rattle.path_walk.specs.Seen.{site_of, crossing_seen}
use Rattle.path_walk.specs.Begun.{is_extended}
use Rattle.path_walk.proofs.begun.extends.Goals as goal

pub returns : goal.returns
returns c =
    let s = site_of (policy_of c.args.topo) c.args.graph.now in
    let path = map crossing_seen c.args.so_far.now in
    IfOk-weaker c.extends_from.result (λ r. r ≡ list_any (goes_into path c.args.next.0) (allowed_walks s c.start_of-from.result.0 c.args.to.0)) (λ r. r ≡ is_extended s path c.args.next.0 c.args.to.0)
    (λ r e. e ∙ ap (λ (z : ℕ). list_any (goes_into path c.args.next.0) (allowed_walks s z c.args.to.0)) c.start_of-from.ensures) c.extends_from.ensures
