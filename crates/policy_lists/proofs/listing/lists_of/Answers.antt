use Rattle.std.proofs.Common.{◌<◌, length, arith}
use Rattle.std.proofs.lemmas.Result.{err_from_is_err_and}
use Rattle.topology.specs.View.{policy_of}
use Rattle.policy_outcome.specs.Found.{meaning_in}
use Rattle.policy_lists.proofs.Interfaces.{one_more_listed, all_listed}
use Rattle.policy_lists.proofs.Lines.{left_at_start, left_after, left_enough, refused_at}
use Rattle.policy_lists.proofs.listing.lists_of.Goals as goal

pub loop-i-preserved : goal.loop-i-preserved
loop-i-preserved c =
    let below : c.loop-i.i < length (policy_of c.args.viewed.now.topo).ifaces = omega (arith, c.loop-i-test.true, c.iface_count-i-end.ensures) in
    record {
      before = c.in_ok-list.ensures.before;
      listed = one_more_listed (meaning_in c.args.viewed.now.topo) c.loop-i.i c.loop-i.lists.items c.push_list.new.lists.items c.in_ok-list.list below c.in_ok-push_list.ensures c.in_ok-list.ensures.list c.loop-i.invariant.listed;
      left = left_after (meaning_in c.args.viewed.now.topo) c.loop-i.i c.loop-i.left c.list_here.new.left below c.in_ok-list.ensures.left c.loop-i.invariant.left;
      places = c.in_ok-list.ensures.places;
    }

pub returns-clause-lists : goal.returns-clause-lists
returns-clause-lists c = all_listed (meaning_in c.args.viewed.now.topo) c.loop-i.i c.loop-i.lists.items (omega (arith, c.loop-i-test.false, c.iface_count-i-end.ensures)) c.loop-i.invariant.listed

pub returns-clause-few : goal.returns-clause-few
returns-clause-few c = left_enough (meaning_in c.args.viewed.now.topo) c.loop-i.i c.loop-i.left c.loop-i.invariant.left (omega (arith, c.loop-i-test.false, c.iface_count-i-end.ensures))

pub returns-in_err-list-clause-refused : goal.returns-in_err-list-clause-refused
returns-in_err-list-clause-refused c =
    let below : c.loop-i.i < length (policy_of c.args.viewed.now.topo).ifaces = omega (arith, c.loop-i-test.true, c.iface_count-i-end.ensures) in
    let p = err_from_is_err_and c.from_residual.result c.from_residual.ensures.1 in
    rw (p.1, p.2) (refused_at (meaning_in c.args.viewed.now.topo) c.loop-i.i c.loop-i.left c.in_err-list.field-0.0 below c.loop-i.invariant.left c.in_err-list.ensures.refused)
