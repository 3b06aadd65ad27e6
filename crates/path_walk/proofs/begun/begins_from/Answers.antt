use Rattle.std.proofs.Common.{◌≡◌, ◌∙◌, ap, sym, map, List}
use Rattle.std.specs.List.{list_any}
use Rattle.std.proofs.lemmas.Bool.{eqb-true}
use Rattle.std.proofs.lemmas.Result.{IfOk-weaker}
use Rattle.policy_model.specs.Paths as plain
use Rattle.policy_model.specs.Walks.{allowed_walks}
use Rattle.topology.specs.View.{policy_of}
use Rattle.path_walk.specs.Seen.{site_of, path_seen, crossing_seen}
use Rattle.path_walk.specs.Search.{may_begin}
use Rattle.path_walk.proofs.Prefixes.{none_begin, none_at_home}
use Rattle.path_walk.proofs.begun.begins_from.Goals as goal

pub returns-then-eq : goal.returns-then-eq
returns-then-eq c =
    sym (none_at_home (site_of (policy_of c.args.topo) c.args.graph.now) c.args.from.0 c.args.to.0 (plain.is_start_of (map crossing_seen c.args.crossings.now))
    (eqb-true c.args.from.0 c.args.to.0 (sym c.if-eq.ensures)))

pub returns-then-not-branch : goal.returns-then-not-branch
returns-then-not-branch c =
    sym (none_begin (site_of (policy_of c.args.topo) c.args.graph.now) c.args.from.0 c.args.to.0 (map crossing_seen c.args.crossings.now) (sym c.in_ok-retrace.ensures.may ∙ c.if-not-branch.true))

pub leads_on-requires-clause-may : goal.leads_on-requires-clause-may
leads_on-requires-clause-may c =
    let s = site_of (policy_of c.args.topo) c.args.graph.now in
    ap (λ (q : List plain.Crossing). may_begin s c.args.from.0 q) (c.in_ok-retrace.ensures.path c.if-not-branch.false) ∙ (sym c.in_ok-retrace.ensures.may ∙ c.if-not-branch.false)

pub returns : goal.returns
returns c =
    let all = allowed_walks (site_of (policy_of c.args.topo) c.args.graph.now) c.args.from.0 c.args.to.0 in
    let path = path_seen c.retrace.new.search.path.items in
    let crossings = map crossing_seen c.args.crossings.now in
    IfOk-weaker c.leads_on.result (λ r. r ≡ list_any (plain.is_start_of path) all) (λ r. r ≡ list_any (plain.is_start_of crossings) all)
    (λ r e. e ∙ ap (λ (q : List plain.Crossing). list_any (plain.is_start_of q) all) (c.in_ok-retrace.ensures.path c.if-not-branch.false)) c.leads_on.ensures
