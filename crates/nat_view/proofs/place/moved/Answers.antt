use Rattle.std.proofs.Common.{arith}
use Rattle.spoc_base.proofs.Blocks.{block_fits}
use Rattle.spoc_base.specs.Shown.{cidr_of}
use Rattle.nat_view.proofs.Moving.{moved_fits}
use Rattle.nat_view.proofs.place.moved.Goals as goal

pub overflow_add-result : goal.overflow_add-result
overflow_add-result c =
    let to = c.args.to in
    let fits = block_fits to.net.0 to.len (omega arith) to.short to.aligned in
    omega (arith, moved_fits (cidr_of c.args.from) (cidr_of to) c.args.a.0 c.requires.held c.requires.length fits, c.net.ensures, c.net-2.ensures)
