use Rattle.std.proofs.Common.{◌≤◌, drop}
use Rattle.policy_outcome.specs.Found.{meaning_in}
use Rattle.policy_lists.specs.Coming.{ArePlacedFrom}
use Rattle.policy_lists.proofs.Interfaces.{AreListed}
use Rattle.policy_lists.proofs.Lines.{IsLeft}
use Rattle.policy_lists.proofs.listing.lists_of.Given as goal

abbrev pub invariant-loop-i : goal.invariant-loop-i
invariant-loop-i l = record {
  before : l.next ≤ l.i;
  listed : AreListed (meaning_in l.viewed.topo) l.i l.lists.items;
  left : IsLeft (meaning_in l.viewed.topo) l.i l.left;
  places : ArePlacedFrom (meaning_in l.viewed.topo) l.i (drop l.next l.places);
}
