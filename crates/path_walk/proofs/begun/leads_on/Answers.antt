use Rattle.std.proofs.Common.{◌≡◌, ◌∙◌, ◌++◌, ap, sym, List}
use Rattle.std.specs.List.{list_any}
use Rattle.std.proofs.lemmas.Bool.{eqb-true, eq-eqb, false≢true}
use Rattle.std.proofs.lemmas.Result.{IfOk-weaker}
use Rattle.policy_model.specs.Paths.{is_start_of}
use Rattle.policy_model.specs.Walks.{allowed_walks}
use Rattle.topology.specs.View.{policy_of}
use Rattle.path_walk.specs.Seen.{site_of, path_seen}
use Rattle.path_walk.specs.Search.{Branch, end_of, branches_of}
use Rattle.path_walk.specs.Stack.{open_seen}
use Rattle.path_walk.specs.Next.{IsNext}
use Rattle.path_walk.specs.declared.step.Step.{Step}
use Rattle.path_walk.proofs.Standing.{there_already, open_on, found_on}
use Rattle.path_walk.proofs.begun.leads_on.Goals as goal

pub returns-then-eq : goal.returns-then-eq
returns-then-eq c =
    let s = site_of (policy_of c.args.topo) c.args.graph.now in
    let path = path_seen c.args.search.now.path.items in
    let end = c.end_of.ensures ∙ ap (λ (p : List Step). end_of s c.args.from.0 (path_seen p)) c.path.ensures in
    there_already s c.args.from.0 c.args.to.0 path c.requires.elsewhere c.requires.may (sym end ∙ eqb-true c.end_of.result.0 c.args.to.0 (sym c.if-eq.ensures))

pub next-requires-clause-branches : goal.next-requires-clause-branches
next-requires-clause-branches c =
    let s = site_of (policy_of c.args.topo) c.args.graph.now in
    let path = path_seen c.args.search.now.path.items in
    open_on s c.args.from.0 path (path_seen c.expand.new.self.path.items) (open_seen c.expand.new.self.open.items) c.requires.may (ap path_seen c.expand.ensures.path)
    (c.in_ok-expand.ensures.branches ∙ ap (λ (l : List Branch). branches_of s c.args.from.0 path ++ l) (ap open_seen c.requires.branches))

pub returns : goal.returns
returns c =
    let s = site_of (policy_of c.args.topo) c.args.graph.now in
    let path = path_seen c.args.search.now.path.items in
    let at = path_seen c.expand.new.self.path.items in
    let branches = open_seen c.expand.new.self.open.items in
    let new = path_seen c.next.new.self.path.items in
    let new_open = open_seen c.next.new.self.open.items in
    let end = c.end_of.ensures ∙ ap (λ (p : List Step). end_of s c.args.from.0 (path_seen p)) c.path.ensures in
    let away : end_of s c.args.from.0 path ≡ c.args.to.0 → ⊥ = λ e. false≢true (c.if-eq.ensures ∙ eq-eqb c.end_of.result.0 c.args.to.0 (end ∙ e)) in
    IfOk-weaker c.next.result (λ found. IsNext s c.args.from.0 c.args.to.0 at branches found new new_open) (λ found. found ≡ list_any (is_start_of path) (allowed_walks s c.args.from.0 c.args.to.0))
    (λ found n. found_on s c.args.from.0 c.args.to.0 path at branches found new new_open c.requires.may away (ap path_seen c.expand.ensures.path)
    (c.in_ok-expand.ensures.branches ∙ ap (λ (l : List Branch). branches_of s c.args.from.0 path ++ l) (ap open_seen c.requires.branches)) n)
    c.next.ensures
