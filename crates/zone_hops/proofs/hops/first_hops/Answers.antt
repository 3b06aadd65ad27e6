use Rattle.std.proofs.Common.{◌≡◌, ℕ, List, sym, subst}
use Rattle.std.specs.Prelude.{IfOk}
use Rattle.topology.specs.View.{policy_of}
use Rattle.group_expand.specs.Seen.{iface_numbers}
use Rattle.zone_hops.specs.Search.{AreBeginnings}
use Rattle.zone_hops.proofs.Beginnings.{first_hops_are}
use Rattle.zone_hops.proofs.hops.first_hops.Goals as goal

pub returns : goal.returns
returns c =
    let p = policy_of c.args.topo in
    let n = c.args.at.0 in
    let t = c.args.target.0 in
    let passed = c.deref.result.now in
    let all : AreBeginnings p n t passed = subst (AreBeginnings p n t) (sym c.deref.ensures.value) c.in_ok-passed.ensures in
    subst (λ (xs : List ℕ). IfOk c.marked_ifaces.result (λ hops. iface_numbers hops.items ≡ xs)) (sym (first_hops_are p n t passed all)) c.marked_ifaces.ensures
