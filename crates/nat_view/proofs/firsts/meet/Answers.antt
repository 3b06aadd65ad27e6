use Rattle.std.proofs.Common.{◌+◌, true, set, refl, sym, subst}
use Rattle.std.specs.Prelude.{slice_index_or}
use Rattle.nat_view.specs.Met.{AreFirstBelow}
use Rattle.nat_view.proofs.Meeting.{met_first}
use Rattle.nat_view.proofs.firsts.meet.Goals as goal

pub returns-clause-more : goal.returns-clause-more
returns-clause-more c =
    let places = c.args.places.now in
    let met = c.args.met.now.items in
    let table = slice_index_or places c.args.k 0 in
    subst (λ listed. AreFirstBelow places (set met table true) listed (c.args.k + 1)) (sym c.in_ok-push.ensures.items)
    (met_first places met c.args.listed.now.items c.args.k table refl c.requires.so_far)
