-- When pieces are what is left of one box without another.
use Rattle.std.specs.Prelude.{◌≡◌, ◌≤◌, false, not, ◌&&◌, List, length}
use Rattle.std.specs.List.{list_any, All, AllPairs}
use Rattle.spoc_base.specs.Pieces.{HeaderBox, header_box_meets}
use Rattle.policy_model.specs.Packets.{Header}
use Rattle.spoc_base.specs.PlainSets.{IsUnmarked}
use Rattle.piece_laws.specs.HeaderBoxes.{IsHeader, IsHeaderBox, header_box_holds}

-- The pieces are proper boxes, no two of them meet, and together they hold what the first holds and the second doesn't. There are at most 768.
pub record IsDifference (a b : HeaderBox) (pieces : List HeaderBox) : Type 0 where
  pub exact : (h : Header) → IsHeader h → list_any (λ p. header_box_holds p h) pieces ≡ (header_box_holds a h && not (header_box_holds b h))
  pub disjoint : AllPairs (λ p q. header_box_meets p q ≡ false) pieces
  pub proper : All IsHeaderBox pieces
  pub unmarked : All (λ p. IsUnmarked p.transport) pieces
  pub few : length pieces ≤ 768
