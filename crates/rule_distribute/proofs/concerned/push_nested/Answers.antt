use Rattle.std.proofs.Common.{length, ap, ◌∙◌, map}
use Rattle.nat_view.specs.Sights.{sight_of}
use Rattle.closed_pairs.specs.Seen.{nets_seen}
use Rattle.closed_pairs.specs.Reaching.{encloses_in}
use Rattle.rule_distribute.specs.Nested.{named}
use Rattle.rule_distribute.proofs.AllConcerned.{inside_are_there}
use Rattle.rule_distribute.proofs.concerned.push_nested.Goals as goal

pub push_parted-requires : goal.push_parted-requires
push_parted-requires c =
    let sight = sight_of c.args.view in
    inside_are_there sight.policy (encloses_in sight.policy sight.tags (named c.args.outer)) (length c.args.graph.now.zones) c.requires.nets c.deref.result.now
    (ap (map nets_seen) c.deref.ensures.value ∙ c.in_ok-inside.ensures)
