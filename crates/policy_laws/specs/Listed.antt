-- What rules that deny leave, in the words of packets.
use Rattle.std.specs.Prelude.{◌≡◌, ℕ, not, ◌&&◌, List}
use Rattle.spoc_base.specs.Boxes.{IsTransport}
use Rattle.policy_model.specs.Zones.{Site}
use Rattle.policy_model.specs.Permits.{Packet, is_permitted, listed_permits, listed_denials, permits_of}

-- A packet is permitted exactly if some listed permit holds it and no listed denial does.
abbrev pub DeniesExactly : Site → List (List ℕ) → Type 0
DeniesExactly s areas =
    (x : Packet) → IsTransport x.transport →
    is_permitted (permits_of s areas) x ≡ (is_permitted (listed_permits s areas) x && not (is_permitted (listed_denials s areas) x))
