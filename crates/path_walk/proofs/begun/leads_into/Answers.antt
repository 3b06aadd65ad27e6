use Rattle.std.proofs.Common.{◌≡◌, ◌∙◌, ◌++◌, ap, sym, List}
use Rattle.std.specs.List.{list_any}
use Rattle.std.proofs.lemmas.Bool.{eqb-true}
use Rattle.std.proofs.lemmas.Result.{IfOk-weaker}
use Rattle.policy_model.specs.Walks.{allowed_walks}
use Rattle.policy_model.specs.Delivery.{goes_into}
use Rattle.topology.specs.View.{policy_of}
use Rattle.path_walk.specs.Seen.{site_of, path_seen}
use Rattle.path_walk.specs.Search.{Branch, end_of, branches_at}
use Rattle.path_walk.specs.Stack.{open_seen}
use Rattle.path_walk.specs.Next.{IsNext}
use Rattle.path_walk.specs.declared.step.Step.{Step}
use Rattle.path_walk.proofs.Standing.{none_beyond_end, open_into, found_into}
use Rattle.path_walk.proofs.begun.leads_into.Goals as goal

pub returns-then-eq : goal.returns-then-eq
returns-then-eq c =
    let s = site_of (policy_of c.args.topo) c.args.graph.now in
    let path = path_seen c.args.search.now.path.items in
    let end = c.end_of.ensures ∙ ap (λ (p : List Step). end_of s c.args.from.0 (path_seen p)) c.path.ensures in
    none_beyond_end s c.args.from.0 c.args.to.0 path c.args.next.0 (sym end ∙ eqb-true c.end_of.result.0 c.args.to.0 (sym c.if-eq.ensures))

pub next-requires-clause-branches : goal.next-requires-clause-branches
next-requires-clause-branches c =
    let s = site_of (policy_of c.args.topo) c.args.graph.now in
    let path = path_seen c.args.search.now.path.items in
    open_into s c.args.from.0 path (path_seen c.expand_at.new.self.path.items) c.args.next.0 (open_seen c.expand_at.new.self.open.items) c.requires.may (ap path_seen c.expand_at.ensures.path)
    (c.in_ok-expand_at.ensures.branches ∙ ap (λ (l : List Branch). branches_at s c.args.from.0 path c.args.next.0 ++ l) (ap open_seen c.requires.branches))

pub returns : goal.returns
returns c =
    let s = site_of (policy_of c.args.topo) c.args.graph.now in
    let path = path_seen c.args.search.now.path.items in
    let at = path_seen c.expand_at.new.self.path.items in
    let branches = open_seen c.expand_at.new.self.open.items in
    let new = path_seen c.next.new.self.path.items in
    let new_open = open_seen c.next.new.self.open.items in
    IfOk-weaker c.next.result (λ found. IsNext s c.args.from.0 c.args.to.0 at branches found new new_open) (λ found. found ≡ list_any (goes_into path c.args.next.0) (allowed_walks s c.args.from.0 c.args.to.0))
    (λ found n. found_into s c.args.from.0 c.args.to.0 path at c.args.next.0 branches found new new_open c.requires.may (ap path_seen c.expand_at.ensures.path)
    (c.in_ok-expand_at.ensures.branches ∙ ap (λ (l : List Branch). branches_at s c.args.from.0 path c.args.next.0 ++ l) (ap open_seen c.requires.branches)) n)
    c.next.ensures
