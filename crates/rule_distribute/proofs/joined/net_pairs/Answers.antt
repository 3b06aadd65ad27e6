use Rattle.std.proofs.Common.{◌∙◌, sym, subst, map}
use Rattle.std.proofs.lemmas.List.Folds.{flat_map-map}
use Rattle.topology.specs.View.{policy_of}
use Rattle.permit_set.specs.Shown.{permit_of}
use Rattle.permit_lines.specs.Given.{site_with}
use Rattle.rule_distribute.specs.Pairs.{AreOnce}
use Rattle.rule_distribute.specs.Rows.{net_arcs}
use Rattle.rule_distribute.proofs.NetPairs.{net_pairs_are, has_all}
use Rattle.rule_distribute.proofs.joined.net_pairs.Goals as goal

pub returns-clause-all : goal.returns-clause-all
returns-clause-all c =
    let s = site_with (policy_of c.args.topo) c.args.graph.now in
    let permits = map permit_of c.args.permits.now in
    let found = c.once_each.new.pairs.items in
    let same = c.in_ok-pairs.ensures {u = tt} ∙ sym (flat_map-map (net_arcs s.zones) permit_of c.args.permits.now) in
    has_all s permits c.requires.permits found (subst (λ xs. AreOnce xs found) same c.once_each.ensures)

pub returns-clause-pairs : goal.returns-clause-pairs
returns-clause-pairs c =
    let s = site_with (policy_of c.args.topo) c.args.graph.now in
    let permits = map permit_of c.args.permits.now in
    let found = c.once_each.new.pairs.items in
    let same = c.in_ok-pairs.ensures {u = tt} ∙ sym (flat_map-map (net_arcs s.zones) permit_of c.args.permits.now) in
    net_pairs_are s permits c.requires.permits found (subst (λ xs. AreOnce xs found) same c.once_each.ensures)
