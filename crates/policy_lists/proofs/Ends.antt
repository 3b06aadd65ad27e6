-- The ends of the permits of a policy that is shaped are ranges of their networks, whether there is an interface or not.
use Rattle.std.proofs.Common.{◌≡◌, ℕ, List, [], ◌∷◌, not, sym, subst, ⊎_elim, arith}
use Rattle.spoc_base.specs.Address.{Interval}
use Rattle.spoc_base.specs.Pieces.{difference}
use Rattle.policy_model.specs.Policy.{Policy}
use Rattle.policy_model.specs.Zones.{Site}
use Rattle.policy_model.specs.Permits.{End, Permit, listed_permits, listed_denials, box_of_permit, left_by, pieces_left_by, permits_of}
use Rattle.policy_model.proofs.AllWalks.{IsIn}
use Rattle.piece_laws.proofs.Counting.{each_in}
use Rattle.piece_laws.proofs.Sides.{IsPart}
use Rattle.piece_laws.proofs.Differences.{IsAscending, IsBoxPart, difference_parts}
use Rattle.piece_laws.proofs.Left.{from_left, kept}
use Rattle.policy_laws.specs.Secured.{IsEnd}
use Rattle.policy_laws.specs.Shaped.{IsShaped}
use Rattle.policy_laws.proofs.Members.{from_flat_map}
use Rattle.policy_laws.proofs.Shapes.{item_ends}

module _ (s : Site) (areas : List (List ℕ)) (ok : IsShaped s.policy) where
  abbrev HasEnds : Permit → Type 0
  HasEnds q = IsEnd s.policy q.src × IsEnd s.policy q.dst

  ascending : (q : Permit) → HasEnds q → IsAscending (box_of_permit q)
  ascending q h = record { src = h.0.ordered; dst = h.1.ordered }

  part_end : (e : End) (r : Interval) → IsEnd s.policy e → IsPart e.range r → IsEnd s.policy (record { net = e.net; range = r })
  part_end e r h part =
      let low = h.first in
      let high = h.last in
      let a = part.low in
      let b = part.high in
      record { ordered = part.ordered; first = omega (arith, low, a); last = omega (arith, high, b) }

  piece_ends : (d q r : Permit) → HasEnds d → HasEnds q → IsIn r (left_by d q) → HasEnds r
  piece_ends d q r hd hq i =
      ⊎_elim (λ e. subst HasEnds (sym e) hq)
      (λ w. subst HasEnds (sym w.2)
      (let parts = difference_parts (box_of_permit q) (box_of_permit d) (ascending q hq) (ascending d hd) in
      let part = each_in (IsBoxPart (box_of_permit q)) (difference (box_of_permit q) (box_of_permit d)) w.0 parts w.1 in
      (part_end q.src w.0.src hq.0 part.src, part_end q.dst w.0.dst hq.1 part.dst)))
      (from_left d q r i)

  pub permit_ends : (q : Permit) → IsIn q (permits_of s areas) → IsEnd s.policy q.src × IsEnd s.policy q.dst
  permit_ends q h =
      let a = from_flat_map (λ q. pieces_left_by (listed_denials s areas) (q ∷ [])) q (listed_permits s areas) h in
      let own : HasEnds a.0 = item_ends s areas ok (λ rule. not rule.deny) a.0 a.1 in
      kept HasEnds (listed_denials s areas) (λ d j x y hx i. piece_ends d x y (item_ends s areas ok (λ rule. rule.deny) d j) hx i) (a.0 ∷ [])
      (λ x i. ⊎_elim (λ e. subst HasEnds (sym e) own) (λ none. absurd none) i) q a.2
