use Rattle.std.proofs.Common.{◌≢◌, ◌∙◌, ap, sym, length, arith}
use Rattle.std.proofs.lemmas.Bool.{eqb-true, eq-eqb, false≢true}
use Rattle.topology.specs.View.{policy_of}
use Rattle.path_walk.specs.Seen.{site_of, path_seen, walks_seen}
use Rattle.path_walk.specs.Stack.{open_seen}
use Rattle.path_walk.proofs.Starts.{no_walks_home}
use Rattle.path_walk.proofs.FirstWalks.{listed_first, listed_none}
use Rattle.path_walk.proofs.listing.walks.Goals as goal

pub returns-then-eq-clause-walks : goal.returns-then-eq-clause-walks
returns-then-eq-clause-walks c =
    let s = site_of (policy_of c.args.topo) c.args.graph.now in
    let same = eqb-true c.args.from.0 c.args.to.0 (sym c.if-eq.ensures) in
    (listed_none s c.args.from.0 c.args.to.0 c.args.most (walks_seen c.of.result) (ap walks_seen (c.of.ensures ∙ c.new-walks.ensures.items)) (no_walks_home s c.args.from.0 c.args.to.0 same)).0

pub returns-then-eq-clause-more : goal.returns-then-eq-clause-more
returns-then-eq-clause-more c =
    let s = site_of (policy_of c.args.topo) c.args.graph.now in
    let same = eqb-true c.args.from.0 c.args.to.0 (sym c.if-eq.ensures) in
    (listed_none s c.args.from.0 c.args.to.0 c.args.most (walks_seen c.of.result) (ap walks_seen (c.of.ensures ∙ c.new-walks.ensures.items)) (no_walks_home s c.args.from.0 c.args.to.0 same)).1

pub loop-search-init : goal.loop-search-init
loop-search-init c =
    let s = site_of (policy_of c.args.topo) c.args.graph.now in
    let other : c.args.from.0 ≢ c.args.to.0 = λ e. false≢true (c.if-eq.ensures ∙ eq-eqb c.args.from.0 c.args.to.0 e) in (
      listed_first s c.args.from.0 c.args.to.0 (walks_seen c.new-walks.result.items) (path_seen c.in_ok-search.search.path.items) (open_seen c.in_ok-search.search.open.items) other
          (ap walks_seen c.new-walks.ensures.items) (ap path_seen c.in_ok-search.ensures.path) c.in_ok-search.ensures.branches,
      omega (arith, ap length c.new-walks.ensures.items),
    )
