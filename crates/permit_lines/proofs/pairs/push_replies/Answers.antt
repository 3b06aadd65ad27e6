use Rattle.permit_set.specs.Shown.{permit_of}
use Rattle.nat_view.specs.Sights.{sight_of}
use Rattle.permit_lines.proofs.Growing.{first_known, second_known, replies_grow}
use Rattle.permit_lines.proofs.pairs.push_replies.Goals as goal

pub push_some-requires : goal.push_some-requires
push_some-requires c = first_known (sight_of c.args.view).policy (permit_of c.args.q.now) c.mirrors.result c.index-mirrors-0.result c.mirrors.ensures c.requires

pub push_some-requires-2 : goal.push_some-requires-2
push_some-requires-2 c = second_known (sight_of c.args.view).policy (permit_of c.args.q.now) c.mirrors.result c.index-mirrors-1.result c.mirrors.ensures c.requires

pub returns : goal.returns
returns c =
    let sight = sight_of c.args.view in
    replies_grow sight.policy sight.tags (permit_of c.args.q.now) c.mirrors.result c.index-mirrors-0.result c.index-mirrors-1.result c.args.covers.now.items c.push_some.new.covers.items
    c.push_some-2.new.covers.items c.mirrors.ensures c.in_ok-push_some.ensures c.in_ok-push_some-2.ensures
