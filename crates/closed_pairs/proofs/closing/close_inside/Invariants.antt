use Rattle.std.proofs.Common.{◌&&◌, map, take}
use Rattle.std.specs.List.{list_any}
use Rattle.permit_set.specs.Shown.{permit_of}
use Rattle.nat_view.specs.Sights.{sight_of}
use Rattle.closed_pairs.specs.Seen.{pair_seen, nets_seen}
use Rattle.closed_pairs.specs.Flags.{enters, same_nets, AreMarked}
use Rattle.closed_pairs.proofs.closing.close_inside.Given as goal

abbrev pub invariant-loop-inner : goal.invariant-loop-inner
invariant-loop-inner l =
    let sight = sight_of l.view in
    AreMarked (λ e. list_any (λ x. same_nets x e.pair) (map nets_seen (take l.inner-index l.inner-items)) && enters sight.policy sight.tags (map permit_of l.permits) (pair_seen l.outer) e)
    (map pair_seen l.pairs) l.initial.flags l.flags
