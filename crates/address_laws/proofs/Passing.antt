-- Packets that are to pass are unambiguous.
use Rattle.std.proofs.Common.{◌≡◌, true, sym, subst}
use Rattle.policy_model.specs.Policy.{Policy}
use Rattle.policy_model.specs.Permits.{Packet}
use Rattle.policy_model.specs.Packets.{is_packet, is_unambiguous}
use Rattle.policy_model.specs.Headline.{Meaning, IsMeaning, is_to_pass}
use Rattle.policy_laws.specs.Shaped.{IsShaped}
use Rattle.policy_laws.proofs.InnerViews.{zone_below}
use Rattle.topology.specs.First.{HasNone}
use Rattle.topology.specs.Sound.{IsSound}
use Rattle.address_laws.specs.Held.{IsHeld}
use Rattle.address_laws.proofs.Lying.{own_address_held}
use Rattle.address_laws.proofs.OnWalks.{is_one, on_all_walks}
use Rattle.address_laws.proofs.Shown.{seen_on_walks}

pub passing_packets : (p : Policy) (m : Meaning) → IsMeaning p m → IsSound p → IsShaped p → HasNone m 1 3 → HasNone m 4 6 → HasNone m 10 10 → (x : Packet) → IsHeld p x.src → IsHeld p x.dst → is_to_pass m x ≡ true →
    (is_packet m.site m.views x ≡ true) × (is_unambiguous m.site m.views x ≡ true)
passing_packets p m meaning sound_p shaped_p tags views hidden x src_p dst_p passing =
    let e = sym meaning.policy in
    let sound = subst IsSound e sound_p in
    let shaped = subst IsShaped e shaped_p in
    let src = subst (λ q. IsHeld q x.src) e src_p in
    let dst = subst (λ q. IsHeld q x.dst) e dst_p in
    let site = meaning.zones in
    let from = zone_below m.site site x.src.net (own_address_held m.site.policy sound shaped x.src src).below in
    (is_one m site sound shaped tags views x src dst, on_all_walks m site sound shaped tags views x src dst (seen_on_walks m site meaning.views sound tags hidden x passing from))
