use Rattle.std.proofs.Common.{◌∙◌, sym, ap, ◌++◌, ◌∷◌, []}
use Rattle.std.specs.List.{list_all}
use Rattle.std.specs.Prelude.{not}
use Rattle.policy_model.specs.Paths.{interfaces_on}
use Rattle.policy_model.specs.Walks.{has_two_of}
use Rattle.topology.specs.View.{policy_of, sources_of}
use Rattle.path_walk.specs.Seen.{path_seen, step_seen}
use Rattle.path_walk.proofs.Bridges.{allowed_is}
use Rattle.path_walk.proofs.Implied.{implied_are_listed}
use Rattle.path_walk.proofs.onward.is_unrestricted.Goals as goal

pub returns : goal.returns
returns c =
    let q = path_seen c.args.path.now ++ step_seen c.args.last ∷ [] in
    c.allow.ensures
    ∙ (sym (allowed_is (sources_of c.args.topo) q c.restrictions.result.now)
    ∙ (ap (λ rs. list_all (λ r. not (has_two_of r.members (interfaces_on q))) rs) c.restrictions.ensures ∙ sym (implied_are_listed (policy_of c.args.topo) c.args.topo.kept.sound.implied q)))
