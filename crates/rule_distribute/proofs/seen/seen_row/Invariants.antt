use Rattle.std.proofs.Common.{◌≡◌, take}
use Rattle.std.specs.Prelude.{filter}
use Rattle.nat_view.specs.Sights.{sight_of}
use Rattle.rule_distribute.specs.Placed.{is_seen_at}
use Rattle.rule_distribute.specs.Shown.{pairs_seen}
use Rattle.rule_distribute.proofs.seen.seen_row.Given as goal

abbrev pub invariant-loop-w : goal.invariant-loop-w
invariant-loop-w l = l.places.items ≡ filter (is_seen_at (sight_of l.view).policy (sight_of l.view).tags (pairs_seen l.joined)) (take l.w-index l.row)
