use Rattle.std.proofs.Common.{◌<◌, ℕ, slice_index_or, sym, subst}
use Rattle.topology.specs.View.{policy_of}
use Rattle.device_files.proofs.Numbers.{own_below}
use Rattle.device_files.proofs.router.lists_of.Goals as goal

pub list_at-requires : goal.list_at-requires
list_at-requires c =
    let ids = c.ifs_of-row.result.now in
    let k = c.loop-i.i-index in
    let i = (slice_index_or ids k (record { 0 = 0 })).0 in
    subst (λ (n : ℕ). i < n) (sym c.requires.each) (own_below (policy_of c.args.topo) c.args.r.0 ids c.ifs_of-row.ensures k c.loop-i-test.true)

pub written-requires : goal.written-requires
written-requires c = own_below (policy_of c.args.topo) c.args.r.0 c.ifs_of-row.result.now c.ifs_of-row.ensures c.loop-i.i-index c.loop-i-test.true
