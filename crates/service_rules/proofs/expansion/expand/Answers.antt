use Rattle.std.proofs.Common.{arith}
use Rattle.topology.specs.View.{sources_of}
use Rattle.group_expand.specs.Seen.{site_of}
use Rattle.permit_set.specs.Shown.{permit_of}
use Rattle.service_rules.proofs.FirstRules.{clear, end_at, no_end, tells_end, tells_limit}
use Rattle.service_rules.proofs.Limits.{permits_listed, denials_listed, permits_made, whole, within_limits}
use Rattle.service_rules.proofs.expansion.expand.Goals as goal
use Rattle.service_rules.proofs.expansion.expand.Goals.{then-branch-via-then-branch, then-branch-via-else-branch+in_ok-are_too_many-2+then-branch-2}

pub returns-in-Some-clause-refused : goal.returns-in-Some-clause-refused
returns-in-Some-clause-refused c =
    let s = site_of c.args.topo c.args.graph.now in
    tells_end (sources_of c.args.topo) c.in-Some.k c.in-Some.i c.end_fault.result s c.args.areas.now
    (record { at = end_at s c.args.areas.now c.in_ok-k.field-0 c.in-Some.k c.in-Some.i c.in-Some.is c.in_ok-k.ensures; tells = c.end_fault.ensures c.args.graph.now.zones })

pub returns-then-branch-clause-refused : goal.returns-then-branch-clause-refused
returns-then-branch-clause-refused c =
    let s = site_of c.args.topo c.args.graph.now in
    let areas = c.args.areas.now in
    tells_limit (sources_of c.args.topo) s areas
    (record {
      ends = no_end s areas c.in_ok-k.field-0 c.in_default.is c.in_ok-k.ensures;
      many = elim c.then-branch.branch [
        | then-branch-via-then-branch w ↦ permits_listed s areas c.in_ok-are_too_many.field-0 c.in_ok-are_too_many.ensures w.if-branch.true
        | then-branch-via-else-branch+in_ok-are_too_many-2+then-branch-2 w ↦ denials_listed s areas w.in_ok-are_too_many-2.field-0 w.in_ok-are_too_many-2.ensures w.if-branch-2.true
      ];
    })

pub returns-then-len-gt-MOST_PERMITS-clause-refused : goal.returns-then-len-gt-MOST_PERMITS-clause-refused
returns-then-len-gt-MOST_PERMITS-clause-refused c =
    let s = site_of c.args.topo c.args.graph.now in
    let areas = c.args.areas.now in
    tells_limit (sources_of c.args.topo) s areas
    (record {
      ends = no_end s areas c.in_ok-k.field-0 c.in_default.is c.in_ok-k.ensures;
      many = permits_made c.in_ok-permits.permits.items permit_of s areas c.in_ok-permits.ensures
          (omega (arith, c.len.ensures, c.in_ok-permits.permits.ok.0, c.if-len-gt-MOST_PERMITS.true));
    })

pub returns-clause-permits : goal.returns-clause-permits
returns-clause-permits c =
    whole c.in_ok-permits.permits.items permit_of (site_of c.args.topo c.args.graph.now) c.args.areas.now c.in_ok-permits.ensures
    (omega (arith, c.len.ensures, c.in_ok-permits.permits.ok.0, c.if-len-gt-MOST_PERMITS.false))

pub returns-clause-clear : goal.returns-clause-clear
returns-clause-clear c =
    let s = site_of c.args.topo c.args.graph.now in
    let areas = c.args.areas.now in
    clear s areas
    (record {
      ends = no_end s areas c.in_ok-k.field-0 c.in_default.is c.in_ok-k.ensures;
      few = within_limits c.in_ok-permits.permits.items permit_of s areas c.in_ok-are_too_many.field-0 c.in_ok-are_too_many-2.field-0 c.in_ok-are_too_many.ensures c.if-branch.false
          c.in_ok-are_too_many-2.ensures c.if-branch-2.false c.in_ok-permits.ensures
          (omega (arith, c.len.ensures, c.in_ok-permits.permits.ok.0, c.if-len-gt-MOST_PERMITS.false));
    })
