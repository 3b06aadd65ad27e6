use Rattle.permit_set.specs.Shown.{permit_of}
use Rattle.nat_view.specs.Sights.{sight_of}
use Rattle.permit_lines.proofs.Growing.{permit_grows}
use Rattle.permit_lines.proofs.pairs.push_permit.Goals as goal

pub returns : goal.returns
returns c =
    let sight = sight_of c.args.view in
    permit_grows sight.policy sight.tags (permit_of c.args.q.now) c.in_ok-cover.cover c.args.covers.now.items c.push.new.self.items c.in_ok-cover.ensures c.in_ok-push.ensures.items
