use Rattle.std.proofs.Common.{◌≡◌, ◌≢◌, ℕ, true, subst}
use Rattle.topology.specs.View.{policy_of}
use Rattle.group_expand.specs.Spread.{marked}
use Rattle.zone_hops.specs.Search.{numbers_of}
use Rattle.zone_hops.proofs.Marking.{visited_by}
use Rattle.zone_hops.proofs.search.visit_by.Goals as goal

pub returns-clause-keeps : goal.returns-clause-keeps
returns-clause-keeps c =
    visited_by (policy_of c.args.topo) c.args.at.0 c.net_of_iface.result.0 c.args.j.0 c.args.seen.now c.visit.new.seen c.args.passed.now c.visit.new.passed
    (numbers_of c.args.left.now.items) (numbers_of c.visit.new.left.items) c.requires.there c.net_of_iface.ensures.value c.in_ok-visit.ensures.keeps

pub returns-clause-seen : goal.returns-clause-seen
returns-clause-seen c = subst (λ (x : ℕ). x ≢ c.args.at.0 → marked c.visit.new.seen x ≡ true) c.net_of_iface.ensures.value c.in_ok-visit.ensures.seen
