use Rattle.std.proofs.Common.{◌∙◌, sym}
use Rattle.topology.specs.View.{policy_of}
use Rattle.zone_graph.proofs.Joining.{joined_back}
use Rattle.zone_graph.proofs.Ties.{joined_between}
use Rattle.zone_graph.proofs.forest.join.Goals as goal

pub link-requires-clause-joined : goal.link-requires-clause-joined
link-requires-clause-joined c =
    joined_between (policy_of c.args.topo) c.args.a c.args.b c.find-x.result c.find-y.result c.requires.joined c.find-x.ensures.joined c.find-y.ensures.joined

pub link-requires-else-x-y-clause-joined : goal.link-requires-else-x-y-clause-joined
link-requires-else-x-y-clause-joined c =
    joined_back (policy_of c.args.topo) c.find-x.result c.find-y.result
    (joined_between (policy_of c.args.topo) c.args.a c.args.b c.find-x.result c.find-y.result c.requires.joined c.find-x.ensures.joined c.find-y.ensures.joined)

pub returns-then-x-y-clause-ties : goal.returns-then-x-y-clause-ties
returns-then-x-y-clause-ties c label h = c.find-x.ensures.ties label (c.find-y.ensures.ties label (c.link.ensures.ties label h))

pub returns-else-x-y-clause-ties : goal.returns-else-x-y-clause-ties
returns-else-x-y-clause-ties c label h = c.find-x.ensures.ties label (c.find-y.ensures.ties label (c.link-else-x-y.ensures.ties label h))

pub returns-then-x-y-clause-tied : goal.returns-then-x-y-clause-tied
returns-then-x-y-clause-tied c label h =
    let y = c.link.ensures.ties label h in
    c.find-x.ensures.tied label (c.find-y.ensures.ties label y) ∙ (c.link.ensures.tied label h ∙ sym (c.find-y.ensures.tied label y))

pub returns-else-x-y-clause-tied : goal.returns-else-x-y-clause-tied
returns-else-x-y-clause-tied c label h =
    let y = c.link-else-x-y.ensures.ties label h in
    c.find-x.ensures.tied label (c.find-y.ensures.ties label y) ∙ (sym (c.link-else-x-y.ensures.tied label h) ∙ sym (c.find-y.ensures.tied label y))
