use Rattle.std.proofs.Common.{◌≡◌, ◌≢◌, ◌∙◌, ap, sym, subst, Bool}
use Rattle.std.proofs.lemmas.Bool.{eqb-true, eq-eqb, false≢true}
use Rattle.topology.specs.View.{policy_of}
use Rattle.path_walk.specs.Seen.{site_of, path_seen}
use Rattle.path_walk.specs.Stack.{open_seen}
use Rattle.path_walk.specs.Next.{IsNext}
use Rattle.path_walk.specs.Pairs.{crossing_pairs, link_pairs, with_pairs}
use Rattle.path_walk.proofs.Starts.{no_walks_home}
use Rattle.path_walk.proofs.Marking.{open_first, marking_first, marking_more, marking_none}
use Rattle.path_walk.proofs.marks.Marks.add_all.Goals as goal

pub loop-search-init : goal.loop-search-init
loop-search-init c =
    let s = site_of (policy_of c.args.topo) c.args.graph.now in
    let path = path_seen c.in_ok-search.search.path.items in
    let branches = open_seen c.in_ok-search.search.open.items in
    let other : c.args.from.0 ≢ c.args.to.0 = λ e. false≢true (c.if-eq.ensures ∙ eq-eqb c.args.from.0 c.args.to.0 e) in
    let empty = ap path_seen c.in_ok-search.ensures.path in (
      open_first s c.args.from.0 path branches empty c.in_ok-search.ensures.branches,
      marking_first s c.args.from.0 c.args.to.0 crossing_pairs c.args.self.now.crossings.keys path branches other empty c.in_ok-search.ensures.branches,
      marking_first s c.args.from.0 c.args.to.0 link_pairs c.args.self.now.links.keys path branches other empty c.in_ok-search.ensures.branches,
    )

pub loop-search-preserved : goal.loop-search-preserved
loop-search-preserved c =
    let s = site_of (policy_of c.args.topo) c.args.graph.now in
    let path = path_seen c.loop-search.search.path.items in
    let branches = open_seen c.loop-search.search.open.items in
    let new = path_seen c.next.new.self.path.items in
    let new_open = open_seen c.next.new.self.open.items in
    let n = subst (λ (b : Bool). IsNext s c.args.from.0 c.args.to.0 path branches b new new_open) c.if-branch.true c.in_ok-next.ensures in
    let same : path_seen c.path.result.now ≡ new = ap path_seen c.path.ensures in (
      n.kept,
      marking_more s c.args.from.0 c.args.to.0 crossing_pairs c.args.self.now.crossings.keys c.loop-search.self.crossings.keys c.add_walk.new.self.crossings.keys path new branches new_open c.loop-search.invariant.1 n
          (c.in_ok-add_walk.ensures.crossings ∙ ap (λ q. with_pairs c.loop-search.self.crossings.keys (crossing_pairs q)) same),
      marking_more s c.args.from.0 c.args.to.0 link_pairs c.args.self.now.links.keys c.loop-search.self.links.keys c.add_walk.new.self.links.keys path new branches new_open c.loop-search.invariant.2 n
          (c.in_ok-add_walk.ensures.links ∙ ap (λ q. with_pairs c.loop-search.self.links.keys (link_pairs q)) same),
    )

pub returns-then-eq-clause-crossings : goal.returns-then-eq-clause-crossings
returns-then-eq-clause-crossings c =
    let s = site_of (policy_of c.args.topo) c.args.graph.now in
    marking_none s c.args.from.0 c.args.to.0 crossing_pairs c.args.self.now.crossings.keys (no_walks_home s c.args.from.0 c.args.to.0 (eqb-true c.args.from.0 c.args.to.0 (sym c.if-eq.ensures)))

pub returns-then-eq-clause-links : goal.returns-then-eq-clause-links
returns-then-eq-clause-links c =
    let s = site_of (policy_of c.args.topo) c.args.graph.now in
    marking_none s c.args.from.0 c.args.to.0 link_pairs c.args.self.now.links.keys (no_walks_home s c.args.from.0 c.args.to.0 (eqb-true c.args.from.0 c.args.to.0 (sym c.if-eq.ensures)))
