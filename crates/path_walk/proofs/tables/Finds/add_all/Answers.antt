use Rattle.std.proofs.Common.{ℕ, List, refl, ap, subst, ◌∙◌}
use Rattle.std.specs.Prelude.{Option}
use Rattle.spoc_base.specs.declared.ids.ZoneId.{ZoneId}
use Rattle.policy_model.specs.Paths.{Crossing}
use Rattle.topology.specs.View.{policy_of}
use Rattle.path_walk.specs.Seen.{site_of, path_seen}
use Rattle.path_walk.specs.Stack.{open_seen}
use Rattle.path_walk.specs.Swept.{numbers_of, IsAdvanced}
use Rattle.path_walk.specs.Tables.{IsAdded}
use Rattle.path_walk.proofs.Marking.{open_first}
use Rattle.path_walk.proofs.Ends.{found_first, found_more, found_last}
use Rattle.path_walk.proofs.tables.Finds.add_all.Goals as goal

pub loop-search-init : goal.loop-search-init
loop-search-init c =
    let s = site_of (policy_of c.args.topo) c.args.graph.now in
    let path = path_seen c.in_ok-search.search.path.items in
    let branches = open_seen c.in_ok-search.search.open.items in
    let empty = ap path_seen c.in_ok-search.ensures.path in (
      open_first s c.args.from.0 path branches empty c.in_ok-search.ensures.branches,
      found_first s c.args.from.0 (numbers_of c.args.wanted.now) c.args.self.now.ends path branches c.requires.new empty c.in_ok-search.ensures.branches,
      λ (to : ℕ). refl,
    )

pub loop-search-preserved : goal.loop-search-preserved
loop-search-preserved c =
    let s = site_of (policy_of c.args.topo) c.args.graph.now in
    let wanted = numbers_of c.args.wanted.now in
    let path = path_seen c.loop-search.search.path.items in
    let branches = open_seen c.loop-search.search.open.items in
    let new = path_seen c.advance.new.self.path.items in
    let new_open = open_seen c.advance.new.self.open.items in
    let swept = subst (λ (r : Option ZoneId). IsAdvanced s c.args.from.0 wanted path branches r new new_open) c.in-Some.is c.in_ok-end.ensures in
    let added = subst (λ (q : List Crossing). IsAdded c.in-Some.end.0 q c.loop-search.self.ends c.add_walk.new.self.ends) (ap path_seen c.path.ensures) c.in_ok-add_walk.ensures.marks in (
      swept.kept,
      found_more s c.args.from.0 wanted c.loop-search.self.ends c.add_walk.new.self.ends path new branches new_open c.in-Some.end.0 c.loop-search.invariant.1 swept added,
      λ (to : ℕ). c.in_ok-add_walk.ensures.zones to ∙ c.loop-search.invariant.2 to,
    )

pub loop-search-smaller : goal.loop-search-smaller
loop-search-smaller c =
    let s = site_of (policy_of c.args.topo) c.args.graph.now in
    let swept = subst (λ (r : Option ZoneId). IsAdvanced s c.args.from.0 (numbers_of c.args.wanted.now) (path_seen c.loop-search.search.path.items) (open_seen c.loop-search.search.open.items) r
    (path_seen c.advance.new.self.path.items) (open_seen c.advance.new.self.open.items)) c.in-Some.is c.in_ok-end.ensures in
    swept.less

pub returns-clause-marks : goal.returns-clause-marks
returns-clause-marks c =
    let s = site_of (policy_of c.args.topo) c.args.graph.now in
    found_last s c.args.from.0 (numbers_of c.args.wanted.now) c.loop-search.self.ends (path_seen c.loop-search.search.path.items) (open_seen c.loop-search.search.open.items) c.loop-search.invariant.1
    (subst (λ (r : Option ZoneId). IsAdvanced s c.args.from.0 (numbers_of c.args.wanted.now) (path_seen c.loop-search.search.path.items) (open_seen c.loop-search.search.open.items) r
    (path_seen c.advance.new.self.path.items) (open_seen c.advance.new.self.open.items)) c.in_default.is c.in_ok-end.ensures)
